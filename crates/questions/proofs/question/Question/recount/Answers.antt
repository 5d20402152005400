use Rattle.std.proofs.Common.{map, length, get_or, set, ap, ◌∙◌, length-set, arith}
use Rattle.bounded.proofs.Writing.{written_all}
use lib.ListN.{length-map}
use Rattle.questions.specs.Tries.{tried_for, question_of, with_tries}
use Rattle.questions.proofs.Counting.{counted_again}
use Rattle.questions.proofs.question.Question.recount.Goals as goal

pub returns : goal.returns
returns c d =
    let self = c.args.self.now in
    let pending = c.args.pending.now in
    let m = length-map self.tries tried_for in
    let lent = c.as_mut_slice-tries.ensures.value in
    let after = set c.as_mut_slice-tries.result.now c.args.at c.again.result in
    let l = length-set c.as_mut_slice-tries.result.now c.args.at c.again.result in
    let e = ap length lent in
    ap (λ ts. with_tries (map tried_for ts) (question_of self)) (written_all self.tries after (omega arith) ∙ ap (λ ts. set ts c.args.at c.again.result) lent)
    ∙ ap (λ ts. with_tries ts (question_of self)) (counted_again tried_for self.tries pending.place pending.query.id.0 c.args.at c.index-tries-at.result c.again.result (omega arith) (c.index-tries-at.is ∙ ap (λ ts. get_or ts c.args.at c.index-tries-at.result) lent) c.again.ensures.value d)
