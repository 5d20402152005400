use Rattle.std.proofs.Common.{[], ◌∷◌, ◌++◌, Ok, sym, refl, ap, ◌∙◌, arith}
use Rattle.names.specs.Labels.{proper}
use Rattle.names.specs.Names.{labels}
use Rattle.names.proofs.Push.{named, pushed, full, ill_made, too_long}
use Rattle.names.proofs.name.Name.push.Goals as goal
use Rattle.names.proofs.name.Name.push.Goals.{then-count-ge-MAX_LABELS-via-then-count-ge-MAX_LABELS, then-count-ge-MAX_LABELS-via-else-count-ge-MAX_LABELS+then-not-is_label}

pub returns-then-count-ge-MAX_LABELS : goal.returns-then-count-ge-MAX_LABELS
returns-then-count-ge-MAX_LABELS c = (
  elim c.then-count-ge-MAX_LABELS.branch [
    | then-count-ge-MAX_LABELS-via-then-count-ge-MAX_LABELS w ↦ full c.args.self.now c.args.label.now (omega (arith, w.if-count-ge-MAX_LABELS.true))
    | then-count-ge-MAX_LABELS-via-else-count-ge-MAX_LABELS+then-not-is_label w ↦ ill_made c.args.self.now c.args.label.now (sym w.if-not-is_label.ensures)
  ],
  refl,
)

pub returns-then-end-count-gt-MAX_WRITTEN : goal.returns-then-end-count-gt-MAX_WRITTEN
returns-then-end-count-gt-MAX_WRITTEN c = (too_long c.args.self.now c.args.label.now (omega arith), refl)

pub invariant_of-self : goal.invariant_of-self
invariant_of-self c =
    let p = pushed c.args.self.now c.args.label.now c.start-start.result c.copy_from_slice.new.self (sym c.if-not-is_label.ensures) c.start-start.ensures.value (omega arith) (omega arith) (omega arith) (omega arith) c.copy_from_slice.ensures.after in
    record { counted = p.counted; laid = p.laid; limited = ap proper p.labelled ∙ p.limited }

pub returns : goal.returns
unfolding labels
returns c =
    let p = pushed c.args.self.now c.args.label.now c.start-start.result c.copy_from_slice.new.self (sym c.if-not-is_label.ensures) c.start-start.ensures.value (omega arith) (omega arith) (omega arith) (omega arith) c.copy_from_slice.ensures.after in
    named (labels c.args.self.now ++ c.args.label.now ∷ []) p.limited ∙ ap Ok (sym p.labelled)
