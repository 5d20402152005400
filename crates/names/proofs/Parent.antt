-- One label less: the block of the name above, and that the root has none.
use Rattle.std.proofs.Common.{◌≡◌, ℕ, ◌≤◌, true, length, take, drop, sym, ap, ◌∙◌}
use Rattle.std.proofs.lemmas.List.{take-take, take-append-drop}
use Rattle.names.specs.declared.name.Name.{Name}
use Rattle.names.specs.Labels.{proper}
use Rattle.names.specs.Layout.{pieces, rising}
use Rattle.names.specs.Names.{labels}
use Rattle.names.proofs.Pieces.{pieces_take, rising_take}
use Rattle.names.proofs.Proper.{proper_front}
use Rattle.names.proofs.Laws.{labels_proper}

module _ (n : Name) (m : ℕ) (few : m ≤ n.count) where
  fewer : take m (take n.count n.ends) ≡ take m n.ends
  fewer = take-take m n.count n.ends few

  pub upper_laid : rising 0 (take m n.ends) (length n.bytes) ≡ true
  upper_laid = ap (λ es. rising 0 es (length n.bytes)) (sym fewer) ∙ rising_take m 0 (take n.count n.ends) (length n.bytes) n.laid

  -- the upper labels of a name
  pub upper_labels : pieces 0 (take m n.ends) n.bytes ≡ take m (labels n)
  unfolding labels
  upper_labels = ap (λ es. pieces 0 es n.bytes) (sym fewer) ∙ pieces_take m 0 (take n.count n.ends) n.bytes

  pub upper_limited : proper (pieces 0 (take m n.ends) n.bytes) ≡ true
  upper_limited = ap proper upper_labels ∙ proper_front (take m (labels n)) (drop m (labels n)) (ap proper (take-append-drop m (labels n)) ∙ labels_proper n)
