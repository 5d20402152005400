-- Places gathered in an array, and flags set at them.
use Rattle.std.proofs.Common.{◌≡◌, ℕ, zero, suc, ◌+◌, ◌<◌, ◌≤◌, Bool, true, ltb, List, [], ◌∷◌, ◌++◌, length, get_or, take, drop, set, Some, None, sym, refl, ap, ◌∙◌, arith, length-set}
use Rattle.std.specs.List.{slice_get}
use Rattle.std.proofs.lemmas.List.{drop_more, drop_all, take_more_set, length-take-le}
use Rattle.std.proofs.lemmas.Option.{slice_get_past}
use Rattle.std.proofs.lemmas.Bool.{cond-true, cond-false, lt-ltb, le-ltb}
use Rattle.walks.specs.Traces.{one_place, marked}

-- one place more in the array
pub pushed : (xs : List ℕ) (n p : ℕ) → length xs ≡ 24 → n < 24 → take (n + 1) (set xs n p) ≡ one_place p (take n xs)
pushed xs n p l k =
    let t = length-take-le n xs (omega arith) in
    take_more_set xs n p (omega arith) ∙ sym (cond-true (ltb (length (take n xs)) 24) (take n xs ++ (p ∷ [])) (take n xs) (lt-ltb (length (take n xs)) 24 (omega arith)))

pub full : (xs : List ℕ) (n p : ℕ) → length xs ≡ 24 → n ≤ 24 → 24 ≤ n → take n xs ≡ one_place p (take n xs)
full xs n p l k h =
    let t = length-take-le n xs (omega arith) in
    sym (cond-false (ltb (length (take n xs)) 24) (take n xs ++ (p ∷ [])) (take n xs) (le-ltb (length (take n xs)) 24 (omega arith)))

-- what is read of the places in use, and past them
nth_take : (xs : List ℕ) (n i d : ℕ) → i < n → n ≤ length xs → slice_get (take n xs) i ≡ Some (get_or xs i d)
nth_take [] n i d l k = absurd (omega arith)
nth_take (x ∷ xs) zero i d l k = absurd (omega arith)
nth_take (x ∷ xs) (suc n) zero d l k = refl
nth_take (x ∷ xs) (suc n) (suc i) d l k = nth_take xs n i d (omega arith) (omega arith)

pub got : (xs : List ℕ) (n i : ℕ) → length xs ≡ 24 → n ≤ 24 → i < n → Some (get_or xs i 0) ≡ slice_get (take n xs) i
got xs n i l k h = sym (nth_take xs n i 0 h (omega arith))

pub got_none : (xs : List ℕ) (n i : ℕ) → length xs ≡ 24 → n ≤ 24 → n ≤ i → None ≡ slice_get (take n xs) i
got_none xs n i l k h = let t = length-take-le n xs (omega arith) in sym (slice_get_past (take n xs) i (omega arith))

-- ---- marking, place by place

-- there are as many flags as there were
pub mark_length : (ps : List ℕ) (us : List Bool) → length (marked ps us) ≡ length us
unfolding marked
mark_length [] us = refl
mark_length (p ∷ ps) us = mark_length ps (set us p true) ∙ length-set us p true

set_past : (us : List Bool) (p : ℕ) → length us ≤ p → set us p true ≡ us
set_past [] p l = refl
set_past (u ∷ us) zero l = absurd (omega arith)
set_past (u ∷ us) (suc p) l = ap (λ xs. u ∷ xs) (set_past us p (omega arith))

-- the place at an index, and those behind it
pub mark_on : (xs : List ℕ) (i : ℕ) (us : List Bool) → i < length xs → marked (drop (i + 1) xs) (set us (get_or xs i 0) true) ≡ marked (drop i xs) us
unfolding marked
mark_on xs i us l = sym (ap (λ ps. marked ps us) (drop_more xs i 0 l))

pub mark_past : (xs : List ℕ) (i : ℕ) (us : List Bool) → i < length xs → length us ≤ get_or xs i 0 → marked (drop (i + 1) xs) us ≡ marked (drop i xs) us
mark_past xs i us l k = ap (marked (drop (i + 1) xs)) (sym (set_past us (get_or xs i 0) k)) ∙ mark_on xs i us l

pub mark_end : (xs : List ℕ) (i : ℕ) (us : List Bool) → length xs ≤ i → marked (drop i xs) us ≡ us
unfolding marked
mark_end xs i us l = ap (λ ps. marked ps us) (drop_all i xs l)
