use Rattle.std.proofs.Common.{map, length, Some, ap, sym, ◌∙◌, arith}
use lib.ListN.{length-map}
use Rattle.protocol.specs.Walks.{shown_by}
use Rattle.questions.specs.Tries.{question_of}
use Rattle.walks.specs.Traces.{places_of}
use Rattle.resolver.specs.Resolvers.{rules_for, state_of}
use Rattle.resolver.proofs.Using.{none_flagged, one_flagged, all_flagged}
use Rattle.resolver.proofs.resolver.Resolver.mark_used.Goals as goal

pub loop-question-init : goal.loop-question-init
loop-question-init c = let self = c.args.self.now in none_flagged question_of (rules_for self) (state_of self) self.cache.apart c.as_slice-question-items.result.now c.args.used.now c.requires

pub loop-question-preserved : goal.loop-question-preserved
loop-question-preserved c =
    let self = c.args.self.now in
    one_flagged question_of (rules_for self) (state_of self) self.cache.apart c.as_slice-question-items.result.now c.loop-question.question-index c.question-item.result c.loop-question.used c.mark.new.flags (places_of c.walk-course.result.trace)
    (omega arith) c.question-item.is
    (c.walk-course.ensures.words ∙ (λ i. map Some (shown_by (rules_for self) (state_of self).now (state_of self).cache (c.request-request.ensures.name i) (c.request-request.ensures.kind i)).words))
    c.mark.ensures c.loop-question.invariant

pub returns-clause-used : goal.returns-clause-used
returns-clause-used c =
    let self = c.args.self.now in
    let e = c.as_slice-question-items.ensures.value in
    all_flagged question_of (rules_for self) (state_of self) self.cache.apart c.as_slice-question-items.result.now c.loop-question.question-index c.loop-question.used (omega arith) (ap (map question_of) (sym e)) c.loop-question.invariant

pub returns-clause-few : goal.returns-clause-few
returns-clause-few c =
    let self = c.args.self.now in
    let m = length-map self.walks question_of in
    let k = ap length c.as_slice-question-items.ensures.value in
    let l = c.as_slice-question-items.ensures.few in
    omega arith
