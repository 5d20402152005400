-- Sets that a zone has not yet, put in at their place.
use Rattle.std.proofs.Common.{◌≡◌, ℕ, ◌+◌, Bool, true, false, cond, not, ◌&&◌, ◌||◌, ltb, List, [], ◌∷◌, ◌++◌, length, is_some, Ok, Err, sym, refl, ap, ◌∙◌, ⊎_elim, append_assoc, arith, length-append}
use mathlib.Core.List.Memᴰ
use mathlib.Core.List.{Memᴰ}
use Rattle.std.specs.List.{list_any}
use Rattle.std.proofs.lemmas.Bool.{cond-false, and_parts, or_from, not-true, not_from_true, le-ltb}
use Rattle.names.specs.declared.fault.Fault.TheVariants.{Misplaced, Conflict, TooMuch}
use Rattle.names.specs.Order.{within}
use Rattle.meaning.specs.Model.{delegates, Set}
use Rattle.meaning.specs.Says.{same, is_exactly, find}
use Rattle.zones.specs.Sorted.{is_before, sorted}
use Rattle.zones.specs.Valid.{clashes, no_clash, insert_set}
use Rattle.zones.proofs.Insert.{insert_on, clash_turned}
use Rattle.transfers.specs.Joining.{stands, any_outside, any_stands, any_twice, any_cut_at, any_clash, insert_all, joined}
use Rattle.transfers.proofs.Searched.{any_found}
use Rattle.transfers.proofs.Orders.{Before, apart, not_both, sorted_tail, behind, across, sorted_back, no_clash_with, clash_across, belongs_in, Good, good_middle}

-- ---- nothing speaks against them

none_any : (test : Set → Bool) (ss : List Set) → ((s : Set) → Memᴰ s ss → test s ≡ false) → list_any test ss ≡ false
none_any test [] h = refl
none_any test (s ∷ ss) h = or_from (test s) (list_any test ss) (h s (Memᴰ.head refl)) (none_any test ss (λ t m. h t (Memᴰ.tail m)))

none_found : (test : Set → Bool) (ss : List Set) → ((s : Set) → Memᴰ s ss → test s ≡ false) → is_some (find test ss) ≡ false
none_found test ss h = sym (any_found test ss) ∙ none_any test ss h

none_twice : (ss : List Set) → sorted ss ≡ true → any_twice ss ≡ false
none_twice [] o = refl
none_twice (s ∷ ss) o =
    or_from (stands ss s) (any_twice ss)
    (none_found (is_exactly s.name s.kind) ss (λ t m. (apart s t (behind s ss o t m)).0))
    (none_twice ss (sorted_tail s ss o))

-- ---- at their place

insert_first : (s : Set) (ss : List Set) → ((t : Set) → Memᴰ t ss → Before s t) → insert_set s ss ≡ s ∷ ss
unfolding insert_set
insert_first s [] h = refl
insert_first s (t ∷ ss) h = cond-false (is_before s.name s.kind t) (t ∷ insert_set s ss) (s ∷ t ∷ ss) (not_both s t (h t (Memᴰ.head refl)))

insert_between : (s : Set) (xs ys : List Set) → ((t : Set) → Memᴰ t xs → Before t s) → ((t : Set) → Memᴰ t ys → Before s t) → insert_set s (xs ++ ys) ≡ xs ++ s ∷ ys
insert_between s [] ys h k = insert_first s ys k
insert_between s (x ∷ xs) ys h k = insert_on s x (xs ++ ys) (h x (Memᴰ.head refl)) ∙ ap (λ zs. x ∷ zs) (insert_between s xs ys (λ t m. h t (Memᴰ.tail m)) k)

all_between : (xs new ys : List Set) → sorted (xs ++ (new ++ ys)) ≡ true → insert_all new (xs ++ ys) ≡ xs ++ (new ++ ys)
unfolding insert_all
all_between xs [] ys o = refl
all_between xs (s ∷ new) ys o =
    ap (insert_all new)
    (insert_between s xs ys (λ t m. across xs (s ∷ (new ++ ys)) o t s m (Memᴰ.head refl)) (λ t m. behind s (new ++ ys) (sorted_back xs (s ∷ (new ++ ys)) o) t (Memᴰ.append_right new m))
    ∙ sym (append_assoc xs (s ∷ []) ys))
    ∙ all_between (xs ++ s ∷ []) new ys (ap sorted (append_assoc xs (s ∷ []) (new ++ ys)) ∙ o)
    ∙ append_assoc xs (s ∷ []) (new ++ ys)

-- ---- all of it

module _ (apex : List (List ℕ)) (xs new ys : List Set) (g : Good apex (xs ++ (new ++ ys))) where
  inside : (s : Set) → Memᴰ s new → (within apex s.name ≡ true) × (not (delegates s.kind && same s.name apex) ≡ true)
  inside s m = and_parts (within apex s.name) (not (delegates s.kind && same s.name apex)) (belongs_in apex (xs ++ (new ++ ys)) g.inside s (Memᴰ.append_right xs (Memᴰ.append_left ys m)))

  none_outside : any_outside apex new ≡ false
  none_outside = none_any (λ s. not (within apex s.name)) new (λ s m. not_from_true (within apex s.name) (inside s m).0)

  none_cut_at : any_cut_at apex new ≡ false
  none_cut_at = none_any (λ s. delegates s.kind && same s.name apex) new (λ s m. not-true (delegates s.kind && same s.name apex) (inside s m).1)

  alone : Good apex new
  alone = good_middle apex xs new ys g

  -- each that is there stands before a new one, or behind it
  other : (s t : Set) → Memᴰ s new → Memᴰ t (xs ++ ys) → is_exactly s.name s.kind t ≡ false
  other s t m n =
      ⊎_elim
      (λ a. (apart t s (across xs (new ++ ys) g.ordered t s a (Memᴰ.append_left ys m))).1)
      (λ b. (apart s t (across new ys (sorted_back xs (new ++ ys) g.ordered) s t m b)).0)
      (Memᴰ.append_cases xs n)

  none_stand : any_stands (xs ++ ys) new ≡ false
  none_stand = none_any (stands (xs ++ ys)) new (λ s m. none_found (is_exactly s.name s.kind) (xs ++ ys) (λ t n. other s t m n))

  clear : (s : Set) → Memᴰ s new → clashes s (xs ++ ys) ≡ false
  clear s m =
      no_clash_with s (xs ++ ys)
      (λ t n.
      ⊎_elim
      (λ a. clash_turned t s (clash_across xs (new ++ ys) g.alone t s a (Memᴰ.append_left ys m)))
      (λ b. clash_across (xs ++ new) ys (ap no_clash (append_assoc xs new ys) ∙ g.alone) s t (Memᴰ.append_right xs m) b)
      (Memᴰ.append_cases xs n))

  fits : ltb 4096 (length (xs ++ ys) + length new) ≡ false
  fits =
      let few = g.few in
      let a = length-append xs (new ++ ys) in
      let b = length-append new ys in
      let c = length-append xs ys in
      le-ltb 4096 (length (xs ++ ys) + length new) (omega arith)

  pub joins : joined apex (xs ++ ys) new ≡ Ok (xs ++ (new ++ ys))
  unfolding joined
  joins =
      let o = or_from (any_outside apex new || any_twice new) (any_stands (xs ++ ys) new) (or_from (any_outside apex new) (any_twice new) none_outside (none_twice new alone.ordered)) none_stand in
      let c = or_from (any_cut_at apex new || not (no_clash new)) (any_clash (xs ++ ys) new) (or_from (any_cut_at apex new) (not (no_clash new)) none_cut_at (not_from_true (no_clash new) alone.alone)) (none_any (λ s. clashes s (xs ++ ys)) new clear) in
      let f = fits in
      (λ i. cond (o i) (Err Misplaced) (cond (c i) (Err Conflict) (cond (f i) (Err TooMuch) (Ok (insert_all new (xs ++ ys))))))
      ∙ ap (λ zs. Ok zs) (all_between xs new ys g.ordered)
