-- What an iterator over labels has left, and what a step takes of it.
use Rattle.std.proofs.Common.{◌≡◌, ℕ, suc, ◌+◌, ◌-◌, ◌<◌, ◌≤◌, List, [], ◌∷◌, ◌++◌, length, get_or, take, drop, sym, ap, ◌∙◌, add-one, arith}
use Rattle.std.specs.List.{between}
use Rattle.std.proofs.lemmas.List.{drop_more}
use Rattle.std.proofs.lemmas.List.Edits.{between_more}

module _ (xs : List (List ℕ)) (s e : ℕ) where
  pub none_left : e - s ≡ 0 → between s e xs ≡ []
  none_left h = ap (λ n. take n (drop s xs)) h

  pub first_left : (x : List ℕ) (t f : ℕ) → 0 < e - s → e ≤ length xs → t ≡ s + 1 → f ≡ e → x ≡ get_or xs s [] → between s e xs ≡ x ∷ between t f xs
  first_left x t f h k p q w =
      let n : e - s ≡ suc (e - (s + 1)) = rw add-one (omega arith) in
      (λ i. take (n i) (drop_more xs s [] (omega arith) i)) ∙ (λ i. sym w i ∷ between (sym p i) (sym q i) xs)

  pub last_left : (x : List ℕ) (t f : ℕ) → 0 < e - s → e ≤ length xs → t ≡ s → e ≡ f + 1 → x ≡ get_or xs f [] → between s e xs ≡ between t f xs ++ x ∷ []
  last_left x t f h k p q w =
      ap (λ n. between s n xs) q ∙ between_more xs s f [] (omega arith) (omega arith) ∙ (λ i. between (sym p i) f xs ++ sym w i ∷ [])
