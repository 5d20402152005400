-- What holds of every name, by its fields: its labels, where they lie, and their limits.
use Rattle.std.proofs.Common.{◌≡◌, ℕ, zero, suc, ◌+◌, ◌<◌, ◌≤◌, true, List, [], ◌∷◌, length, get_or, take, sym, refl, ap, ◌∙◌, add-one, arith}
use Rattle.std.specs.List.{between}
use Rattle.std.proofs.lemmas.List.{length-take-le, get_or-take}
use Rattle.names.specs.declared.name.Name.{Name}
use Rattle.names.specs.Labels.{proper}
use Rattle.names.specs.Layout.{start_at}
use Rattle.names.specs.Names.{labels}
use Rattle.names.proofs.Pieces.{length_pieces, piece_at, rising_at}
use Rattle.names.proofs.Proper.{weight, weight_pieces}

module _ (n : Name) where
  abbrev pub used : List ℕ
  used = take n.count n.ends

  pub used_length : length used ≡ n.count
  used_length = length-take-le n.count n.ends n.counted

  pub count_is : length (labels n) ≡ n.count
  unfolding labels
  count_is = length_pieces 0 used n.bytes ∙ used_length

  pub labels_proper : proper (labels n) ≡ true
  unfolding labels
  labels_proper = n.limited

  -- the ends in use are those of the array
  pub start_used : (i : ℕ) → i ≤ n.count → get_or (0 ∷ used) i 0 ≡ start_at n.ends i
  start_used zero h = refl
  start_used (suc i) h = get_or-take n.count n.ends i 0 (omega arith)

  pub start_below : (i : ℕ) → i < n.count → start_at n.ends i < start_at n.ends (i + 1)
  start_below i h =
      let l = used_length in
      let a = rising_at 0 used (length n.bytes) n.laid i (omega arith) in
      let b = start_used i (omega arith) in
      let c = start_used (suc i) (omega arith) in
      rw add-one (omega arith)

  label_at : (i : ℕ) → i < n.count → get_or (labels n) i [] ≡ between (start_at n.ends i) (start_at n.ends (i + 1)) n.bytes
  unfolding labels
  label_at i h =
      let l = used_length in
      let a = piece_at 0 used n.bytes i (omega arith) in
      rw add-one (a ∙ ap (λ s. between s (get_or used i 0) n.bytes) (start_used i (omega arith)) ∙ ap (λ e. between (start_at n.ends i) e n.bytes) (start_used (suc i) (omega arith)))

  -- the part of the block from a label's start to its end
  pub label_part : (i s e : ℕ) → i < length (labels n) → s ≡ start_at n.ends i → e ≡ start_at n.ends (i + 1) → between s e n.bytes ≡ get_or (labels n) i []
  label_part i s e h p q =
      let l = count_is in
      (λ j. between (p j) (q j) n.bytes) ∙ sym (label_at i (omega arith))

  -- the weight of a name is where its last label ends, and one for each label
  pub weight_is : weight (labels n) ≡ start_at n.ends n.count + n.count
  unfolding labels
  weight_is =
      let l = used_length in
      let w = weight_pieces 0 used n.bytes n.laid in
      let s = ap (λ i. get_or (0 ∷ used) i 0) l in
      let b = start_used n.count (omega arith) in
      omega arith
