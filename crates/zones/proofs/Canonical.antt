-- Sorted sets with the same members are equal lists.
use Rattle.std.proofs.Common.{◌≡◌, suc, true, List, [], ◌∷◌, sym, refl, ◌∙◌, subst, ⊎_elim, true≢false, arith}
use mathlib.Core.List.Memᴰ
use mathlib.Core.List.{Memᴰ}
use Rattle.meaning.specs.Model.{Set}
use Rattle.zones.specs.Sorted.{is_before, sorted, SortedCanonical}
use Rattle.zones.proofs.ByPlace.{not_itself}
use Rattle.zones.proofs.Places.{before_trans, in_order, index_of, sorted_tail}

-- the first stands before every other
stands_before : (s t : Set) (ss : List Set) → sorted (s ∷ ss) ≡ true → Memᴰ t ss → is_before t.name t.kind s ≡ true
stands_before s t ss o m =
    let a = index_of ss s t m in
    let l = a.1 in
    subst (λ x. is_before x.name x.kind s ≡ true) a.2 (in_order (s ∷ ss) o s 0 (suc a.0) (omega arith) (omega arith))

-- so it isn't among the others
not_behind : (s : Set) (ss : List Set) → sorted (s ∷ ss) ≡ true → Memᴰ s ss → ⊥
not_behind s ss o m = true≢false (sym (stands_before s s ss o m) ∙ not_itself s.name s.kind s refl refl)

-- of two that are each in the other's list, neither stands before the other
first_same : (s t : Set) (ss ts : List Set) → sorted (s ∷ ss) ≡ true → sorted (t ∷ ts) ≡ true → Memᴰ s (t ∷ ts) → Memᴰ t (s ∷ ss) → s ≡ t
first_same s t ss ts o p m n =
    ⊎_elim (λ e. e)
    (λ later. ⊎_elim (λ e. sym e)
    (λ after. absurd (true≢false (sym (before_trans s t s.name s.kind (stands_before s t ss o after) (stands_before t s ts p later)) ∙ not_itself s.name s.kind s refl refl)))
    (Memᴰ.cases_cons n))
    (Memᴰ.cases_cons m)

-- behind the same first stand the same others
rest_in : (s t : Set) (ss ts : List Set) → sorted (s ∷ ss) ≡ true → s ≡ t → ((u : Set) → Memᴰ u (s ∷ ss) → Memᴰ u (t ∷ ts)) → (u : Set) → Memᴰ u ss → Memᴰ u ts
rest_in s t ss ts o e h u m = ⊎_elim (λ f. absurd (not_behind s ss o (subst (λ x. Memᴰ x ss) (f ∙ sym e) m))) (λ l. l) (Memᴰ.cases_cons (h u (Memᴰ.tail m)))

pub sorted_canonical : SortedCanonical
sorted_canonical [] [] o p h g = refl
sorted_canonical [] (t ∷ ts) o p h g = absurd (Memᴰ.not-nil (g t (Memᴰ.head refl)))
sorted_canonical (s ∷ ss) [] o p h g = absurd (Memᴰ.not-nil (h s (Memᴰ.head refl)))
sorted_canonical (s ∷ ss) (t ∷ ts) o p h g =
    let e = first_same s t ss ts o p (h s (Memᴰ.head refl)) (g t (Memᴰ.head refl)) in
    let r = sorted_canonical ss ts (sorted_tail s ss o) (sorted_tail t ts p) (rest_in s t ss ts o e h) (rest_in t s ts ss p (sym e) g) in
    λ i. e i ∷ r i
