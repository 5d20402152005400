-- Parts as the code numbers them, one row after the other.
use Rattle.std.proofs.Common.{◌≡◌, ℕ, ◌+◌, ◌<◌, ◌≤◌, List, [], ◌∷◌, ◌++◌, map, length, get_or, drop, sym, refl, ap, ◌∙◌, append_assoc, append-nil}
use Rattle.std.proofs.lemmas.List.{drop_more, drop_all}
use Rattle.meaning.specs.Model.{Set, Zone}
use Rattle.wire.specs.Parts.{Part}
use Rattle.transfers.specs.Splitting.{part_from, parts_from}

module _ {X : Type 0} (g : X → List Set) (xs : List X) (z : Zone) (id moment of : ℕ) where
  abbrev pub Numbered : List Part → ℕ → Type 0
  Numbered ps i = ps ++ parts_from z id moment of (i + 1) (map g (drop i xs)) ≡ parts_from z id moment of 1 (map g xs)

  pub none_numbered : (ps : List Part) → ps ≡ [] → Numbered ps 0
  none_numbered ps e = ap (λ qs. qs ++ parts_from z id moment of 1 (map g xs)) e

  numbers_end : (n : ℕ) → parts_from z id moment of n [] ≡ []
  unfolding parts_from
  numbers_end n = refl

  numbers_more : (n : ℕ) (r : List Set) (rs : List (List Set)) → parts_from z id moment of n (r ∷ rs) ≡ part_from z id moment of n r ∷ parts_from z id moment of (n + 1) rs
  unfolding parts_from
  numbers_more n r rs = refl

  pub one_numbered : (ps qs : List Part) (i : ℕ) (x : X) → Numbered ps i → i < length xs → x ≡ get_or xs i x → qs ≡ ps ++ part_from z id moment of (i + 1) (g x) ∷ [] → Numbered qs (i + 1)
  one_numbered ps qs i x h l is more =
      ap (λ q. q ++ parts_from z id moment of (i + 1 + 1) (map g (drop (i + 1) xs))) more
      ∙ append_assoc ps (part_from z id moment of (i + 1) (g x) ∷ []) (parts_from z id moment of (i + 1 + 1) (map g (drop (i + 1) xs)))
      ∙ ap (λ q. ps ++ q) (sym (numbers_more (i + 1) (g x) (map g (drop (i + 1) xs))))
      ∙ ap (λ ys. ps ++ parts_from z id moment of (i + 1) ys) (sym (ap (map g) (drop_more xs i x l) ∙ ap (λ y. g y ∷ map g (drop (i + 1) xs)) (sym is)))
      ∙ h

  pub all_numbered : (ps : List Part) (i : ℕ) → Numbered ps i → length xs ≤ i → ps ≡ parts_from z id moment of 1 (map g xs)
  all_numbered ps i h l =
      sym (append-nil ps)
      ∙ ap (λ qs. ps ++ qs) (sym (numbers_end (i + 1)))
      ∙ ap (λ ys. ps ++ parts_from z id moment of (i + 1) (map g ys)) (sym (drop_all i xs l))
      ∙ h
