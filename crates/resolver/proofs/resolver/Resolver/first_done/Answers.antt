use Rattle.std.proofs.Common.{◌+◌, ◌++◌, map, length, get_or, take, drop, Some, sym, ap, ◌∙◌, arith}
use lib.ListN.{length-map}
use Rattle.cache.specs.Caches.{entries_of}
use Rattle.questions.specs.Tries.{question_of}
use Rattle.machine.specs.Machine.{is_done, shown_as}
use Rattle.resolver.specs.Resolvers.{roots_of, rules_for, state_of, answer_for}
use Rattle.resolver.proofs.Asking.{not_this, this_one, none_done, not_done, read_at}
use Rattle.resolver.proofs.resolver.Resolver.first_done.Goals as goal

pub loop-place-preserved : goal.loop-place-preserved
loop-place-preserved c =
    let self = c.args.self.now in
    let place = c.loop-place.place in
    let q = c.question-item.result in
    let m = length-map self.walks question_of in
    let k = ap length c.as_slice-question-items.ensures.value in
    not_this (rules_for self) (state_of self) (map question_of self.walks) place (question_of q) (omega arith) (read_at question_of self.walks place q (omega arith) (c.question-item.is ∙ ap (λ ws. get_or ws place q) c.as_slice-question-items.ensures.value) (question_of q))
    (ap is_done (sym c.standing.ensures.standing) ∙ not_done (roots_of self) (entries_of self.cache) c.standing.result c.in_default.not-Done) c.loop-place.invariant

pub returns-in-Done : goal.returns-in-Done
returns-in-Done c =
    let self = c.args.self.now in
    let place = c.loop-place.place in
    let q = c.question-item.result in
    let us = map question_of self.walks in
    let m = length-map self.walks question_of in
    let k = ap length c.as_slice-question-items.ensures.value in
    let r = read_at question_of self.walks place q (omega arith) (c.question-item.is ∙ ap (λ ws. get_or ws place q) c.as_slice-question-items.ensures.value) in
    let outcome = c.in-Done.outcome in
    let answer = answer_for (entries_of self.cache) outcome.answer in (
      omega arith,
      λ d.
          this_one (rules_for self) (state_of self) us place (question_of q) answer outcome.left (omega arith) (r (question_of q)) c.in-Done.ensures.standing c.loop-place.invariant
          ∙ (λ j. record { walks = take place us ++ drop (place + 1) us; shown = Some (shown_as (r d j) answer outcome.left) }),
    )

pub returns : goal.returns
returns c =
    let self = c.args.self.now in
    let m = length-map self.walks question_of in
    let k = ap length c.as_slice-question-items.ensures.value in
    none_done (rules_for self) (state_of self) (map question_of self.walks) c.loop-place.place (omega arith) c.loop-place.invariant
