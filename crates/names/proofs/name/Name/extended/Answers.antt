use Rattle.std.proofs.Common.{◌++◌, Err, sym, ap, ◌∙◌, rules, tests}
use Rattle.std.specs.Slice.Iter.{rsplit_parts, split_rest, split_done, split_callee}
use Rattle.std.proofs.lemmas.Result.{err_from_is_err_and}
use Rattle.names.specs.Names.{labels, given}
use Rattle.names.specs.Reading.{labels_in}
use Rattle.names.proofs.Extend.{refused_there, named_all}
use Rattle.names.proofs.Splitting.{one_more_read, all_read}
use Rattle.names.proofs.name.Name.extended.Goals as goal

pub returns-in_err-push : goal.returns-in_err-push
returns-in_err-push c =
    let p = err_from_is_err_and c.from_residual.result c.from_residual.ensures.1 in
    let from = c.into_iter-label-iterator.ensures.into_iter_gives in
    let so = one_more_read rsplit_parts split_rest split_done split_callee _ _ _ _ c.args.text.now c.loop-label.yielded c.next.result c.in-Some.label c.loop-label.yielded_by c.in-Some.is c.next.ensures.steps (ap (λ it. split_rest (rsplit_parts it)) from ∙ c.rsplit-label-items.ensures.rest) (ap (λ it. split_done (rsplit_parts it)) from ∙ c.rsplit-label-items.ensures.done) (ap (λ it. split_callee (rsplit_parts it)) from ∙ c.rsplit-label-items.ensures.closure) (λ x r q k. search (rules, tests)) in
    ap given p.1 ∙ ap Err p.2 ∙ sym (refused_there (labels c.args.self.now) c.loop-label.yielded c.in-Some.label (labels c.loop-label.name) (labels_in c.args.text.now) c.in_err-push.field-0.0 c.loop-label.invariant so.0 so.1 c.in_err-push.ensures.0)

pub returns : goal.returns
returns c =
    let from = c.into_iter-label-iterator.ensures.into_iter_gives in
    let all = all_read rsplit_parts split_rest split_done split_callee _ _ _ _ c.args.text.now c.loop-label.yielded c.next.result c.loop-label.yielded_by c.in-None.is c.next.ensures.steps (ap (λ it. split_rest (rsplit_parts it)) from ∙ c.rsplit-label-items.ensures.rest) (ap (λ it. split_done (rsplit_parts it)) from ∙ c.rsplit-label-items.ensures.done) (ap (λ it. split_callee (rsplit_parts it)) from ∙ c.rsplit-label-items.ensures.closure) (λ x r q k. search (rules, tests)) in
    sym (named_all c.loop-label.name (labels c.args.self.now ++ labels_in c.args.text.now) (c.loop-label.invariant ∙ ap (λ ls. labels c.args.self.now ++ ls) all))
