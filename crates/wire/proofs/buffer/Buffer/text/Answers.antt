use Rattle.std.proofs.Common.{[], ◌∷◌, ◌++◌, sym, ap, ◌∙◌}
use Rattle.std.specs.Iterator.Adapters.{rev_source}
use Rattle.names.specs.Iterating.{labels_ahead}
use Rattle.names.specs.Names.{labels}
use Rattle.wire.proofs.Texting.{lowest_text, one_text, all_text, root_text}
use Rattle.wire.proofs.buffer.Buffer.text.Goals as goal

pub returns-in_default : goal.returns-in_default
returns-in_default c = root_text _ _ _ (sym c.labels.ensures ∙ sym (ap labels_ahead c.rev-labels.ensures.source) ∙ c.in_default.ensures.steps.0) c.byte.ensures

pub loop-label-init : goal.loop-label-init
loop-label-init c =
    let parted = sym c.labels.ensures ∙ sym (ap labels_ahead c.rev-labels.ensures.source) ∙ c.in-Some.ensures.steps in
    let upper = ap (λ it. labels_ahead (rev_source it)) (sym c.into_iter-label-iterator.ensures.into_iter_gives) in
    lowest_text _ _ _ _ c.in-Some.lowest.now (parted ∙ ap (λ x. x ++ c.in-Some.lowest.now ∷ []) upper) c.put.ensures

pub loop-label-preserved : goal.loop-label-preserved
loop-label-preserved c = one_text _ _ _ _ _ _ _ c.in-Some-label.label.now c.loop-label.invariant c.in-Some-label.ensures.steps c.byte-in-loop-label.ensures c.put-in-loop-label.ensures

pub returns : goal.returns
returns c = all_text _ _ (labels c.args.name.now) _ c.loop-label.invariant c.in-None.ensures.steps.0
