use Rattle.std.proofs.Common.{[], ◌∷◌, ◌++◌, length, sym, refl, ap, ◌∙◌}
use Rattle.std.specs.Iterator.Adapters.{rev_source}
use Rattle.std.proofs.Output.{has_written_of_eq}
use Rattle.names.specs.Iterating.{labels_ahead}
use Rattle.names.specs.Labels.{proper_labels}
use Rattle.names.specs.Names.{labels}
use Rattle.names.proofs.Laws.{labels_proper}
use Rattle.names.proofs.Proper.{limits}
use Rattle.names.proofs.Shown.{written_root, last_proper}
use Rattle.names.proofs.Writing.{none_yet, one_up, all_up}
use Rattle.names.proofs.name.display.NameDisplay.fmt.Goals as goal

pub returns-in_default-clause-writes : goal.returns-in_default-clause-writes
returns-in_default-clause-writes g c =
    let none = sym c.labels.ensures ∙ sym (ap labels_ahead c.rev-labels.ensures.source) ∙ c.in_default.ensures.steps.0 in
    λ p o. has_written_of_eq g.W.Write.write_str_gives _ _ _ _ (sym (written_root (labels c.args.self.now) (ap length none))) (c.write_str.ensures.writes p o)

pub text_of-requires : goal.text_of-requires
text_of-requires g c =
    let n = c.args.self.now in
    let parted = sym c.labels.ensures ∙ sym (ap labels_ahead c.rev-labels.ensures.source) ∙ c.in-Some.ensures.steps in
    (last_proper (labels_ahead (rev_source c.next.new.self)) c.in-Some.lowest.now (ap proper_labels (sym parted) ∙ (limits (labels n) (labels_proper n)).labels)).1

pub loop-label-init : goal.loop-label-init
loop-label-init g c =
    let n = c.args.self.now in
    let parted = sym c.labels.ensures ∙ sym (ap labels_ahead c.rev-labels.ensures.source) ∙ c.in-Some.ensures.steps in (
      ap (λ it. proper_labels (labels_ahead (rev_source it))) c.into_iter-label-iterator.ensures.into_iter_gives ∙ (last_proper (labels_ahead (rev_source c.next.new.self)) c.in-Some.lowest.now (ap proper_labels (sym parted) ∙ (limits (labels n) (labels_proper n)).labels)).0,
      none_yet g.W.Write.write_str_gives c.write_str-2.new.self (labels_ahead (rev_source c.into_iter-label-iterator.result)),
    )

pub text_of-requires-in-loop-label : goal.text_of-requires-in-loop-label
text_of-requires-in-loop-label g c = (last_proper (labels_ahead (rev_source c.next-in-loop-label.new.self)) c.in-Some-label.label.now (ap proper_labels (sym c.in-Some-label.ensures.steps) ∙ c.loop-label.invariant.0)).1

pub loop-label-preserved : goal.loop-label-preserved
loop-label-preserved g c = (
  (last_proper (labels_ahead (rev_source c.next-in-loop-label.new.self)) c.in-Some-label.label.now (ap proper_labels (sym c.in-Some-label.ensures.steps) ∙ c.loop-label.invariant.0)).0,
  one_up g.W.Write.write_str_gives c.write_str-2.new.self (labels_ahead (rev_source c.into_iter-label-iterator.result)) c.loop-label.f c.write_str-in-loop-label.new.self c.write_str-in-loop-label-2.new.self (labels_ahead (rev_source c.loop-label.label-iterator)) (labels_ahead (rev_source c.next-in-loop-label.new.self)) c.text_of-in-loop-label.result.now
      (c.in-Some-label.ensures.steps ∙ ap (λ l. labels_ahead (rev_source c.next-in-loop-label.new.self) ++ l ∷ []) (sym c.text_of-in-loop-label.ensures)) c.loop-label.invariant.1 (λ p. c.in_ok-write_str-2.ensures.writes p refl) (λ p. c.in_ok-write_str-3.ensures.writes p refl),
)

pub returns-clause-writes : goal.returns-clause-writes
returns-clause-writes g c =
    let parted = sym c.labels.ensures ∙ sym (ap labels_ahead c.rev-labels.ensures.source) ∙ c.in-Some.ensures.steps in
    let upper = ap (λ it. labels_ahead (rev_source it)) (sym c.into_iter-label-iterator.ensures.into_iter_gives) in
    λ p o.
    all_up g.W.Write.write_str_gives c.args.f.now c.write_str-2.new.self c.loop-label.f (labels c.args.self.now) _ _ c.text_of.result.now
    (parted ∙ (λ i. upper i ++ sym c.text_of.ensures i ∷ [])) c.in-None.ensures.steps.0 (λ q. c.in_ok-write_str.ensures.writes q refl) c.loop-label.invariant.1 p
