-- Hints in order, one more, one less, and looked through.
use Rattle.std.proofs.Common.{◌≡◌, ◌≢◌, ℕ, suc, ◌+◌, ◌<◌, ◌≤◌, Bool, true, false, eqb, ◌⊎◌, List, [], ◌∷◌, ◌++◌, length, get_or, take, drop, MatchOption, Some, None, Option, sym, refl, ap, ◌∙◌, subst, inl, inr, ⊎_elim, true≢false, arith, drop-cons}
use mathlib.Core.List.Memᴰ
use mathlib.Core.List.{Memᴰ}
use Rattle.std.specs.List.{insert, remove, AllWithin, HoldsAt}
use Rattle.std.proofs.lemmas.List.{get_or_default, take-append-drop}
use Rattle.std.specs.List.Sorted.{IsNonDecreasingBy}
use Rattle.std.proofs.lemmas.List.Sorted.{IsNonDecreasingBy-from_all_adjacent}
use Rattle.std.proofs.lemmas.Bool.{and_parts, and_from, eqb-true, eq-eqb, or_cases, cases_lt}
use Rattle.std.proofs.lemmas.List.Edits.{length-remove, get_or-remove_below, get_or-remove_above}
use Rattle.protocol.specs.Lists.{any}
use Rattle.protocol.proofs.Lists.{any_some, some_any}
use Rattle.cache.specs.declared.index.Hint.{Hint}
use Rattle.cache.specs.Hints.{hash_in, is_hint, hinted, hash_at, place_on, Rising}

abbrev pub blank : Hint
blank = record { hash = 0; place = 0 }

-- ---- in order

pub ordered : (xs : List Hint) → Rising xs → IsNonDecreasingBy hash_in xs
ordered xs h = IsNonDecreasingBy-from_all_adjacent hash_in xs near
  where
    near : (k : ℕ) (d : Hint) → k + 1 < length xs → hash_in (get_or xs k d) ≤ hash_in (get_or xs (k + 1) d)
    near k d l =
        let a = ap hash_in (get_or_default xs k d blank (omega arith)) in
        let b = ap hash_in (get_or_default xs (k + 1) d blank l) in
        let c = h k l in
        omega arith

pub far : (xs : List Hint) → Rising xs → (i j : ℕ) → i ≤ j → j < length xs → hash_at xs i ≤ hash_at xs j
far xs h i j = ordered xs h i j blank

pub rising_removed : (xs : List Hint) (p : ℕ) → Rising xs → p < length xs → Rising (remove xs p)
rising_removed xs p h w k l = go (cases_lt (k + 1) p) (cases_lt k p)
  where
    n : length (remove xs p) + 1 ≡ length xs
    n = length-remove xs p w

    go : (k + 1 < p) ⊎ (p ≤ k + 1) → (k < p) ⊎ (p ≤ k) → hash_at (remove xs p) k ≤ hash_at (remove xs p) (k + 1)
    go (inl a) b =
        let d = ap hash_in (get_or-remove_below xs p blank k (omega arith) w) in
        let e = ap hash_in (get_or-remove_below xs p blank (k + 1) a w) in
        let f = h k (omega arith) in
        omega arith
    go (inr a) (inl b) =
        let m = n in
        let d = ap hash_in (get_or-remove_below xs p blank k b w) in
        let e = ap hash_in (get_or-remove_above xs p blank (k + 1) a w) in
        let f = far xs h k (k + 1 + 1) (omega arith) (omega arith) in
        omega arith
    go (inr a) (inr b) =
        let m = n in
        let d = ap hash_in (get_or-remove_above xs p blank k b w) in
        let e = ap hash_in (get_or-remove_above xs p blank (k + 1) a w) in
        let f = h (k + 1) (omega arith) in
        omega arith

-- ---- which hints there are

module _ (xs : List Hint) (p : ℕ) where
  pub hinted_inserted : (x : Hint) (h i : ℕ) → hinted h i xs ≡ true → hinted h i (insert xs p x) ≡ true
  hinted_inserted x h i e =
      let s = any_some (is_hint h i) xs e in
      some_any (is_hint h i) (insert xs p x) s.0
      (⊎_elim (λ m. Memᴰ.append_left (x ∷ drop p xs) m) (λ m. Memᴰ.append_right (take p xs) (Memᴰ.tail m)) (Memᴰ.append_cases (take p xs) (subst (Memᴰ s.0) (sym (take-append-drop p xs)) s.1))) s.2

  pub hinted_new : (h i : ℕ) → hinted h i (insert xs p (record { hash = h; place = i })) ≡ true
  hinted_new h i =
      some_any (is_hint h i) (insert xs p (record { hash = h; place = i })) (record { hash = h; place = i }) (Memᴰ.append_right (take p xs) (Memᴰ.head refl)) (and_from (eqb h h) (eqb i i) (eq-eqb h h refl) (eq-eqb i i refl))

  pub hinted_removed : p < length xs → (q : ℕ) → place_on xs p ≡ q → (h i : ℕ) → (i ≡ q → ⊥) → hinted h i xs ≡ true → hinted h i (remove xs p) ≡ true
  hinted_removed w q at h i apart e = some_any (is_hint h i) (remove xs p) s.0 (go (Memᴰ.append_cases (take p xs) (subst (Memᴰ s.0) whole s.1))) s.2
    where
      s : (x : Hint) × Memᴰ x xs × (is_hint h i x ≡ true)
      s = any_some (is_hint h i) xs e

      whole : xs ≡ take p xs ++ (get_or xs p blank ∷ drop (suc p) xs)
      whole = sym (take-append-drop p xs) ∙ ap (λ ys. take p xs ++ ys) (drop-cons xs p blank w)

      behind : (s.0 ≡ get_or xs p blank) ⊎ Memᴰ s.0 (drop (suc p) xs) → Memᴰ s.0 (remove xs p)
      behind (inl a) =
          let b = eqb-true s.0.place i (and_parts (eqb s.0.hash h) (eqb s.0.place i) s.2).1 in
          absurd (apart (sym b ∙ ap (λ (x : Hint). x.place) a ∙ at))
      behind (inr m) = Memᴰ.append_right (take p xs) m

      go : Memᴰ s.0 (take p xs) ⊎ Memᴰ s.0 (get_or xs p blank ∷ drop (suc p) xs) → Memᴰ s.0 (remove xs p)
      go (inl m) = Memᴰ.append_left (drop (suc p) xs) m
      go (inr m) = behind (Memᴰ.cases_cons m)

-- a test that some element passes, by place
pub any_place : (test : Hint → Bool) (xs : List Hint) (d : Hint) → any test xs ≡ true → (k : ℕ) × (k < length xs) × (test (get_or xs k d) ≡ true)
unfolding any
any_place test [] d e = absurd (true≢false (sym e))
any_place test (x ∷ xs) d e = go (any_place test xs d) (or_cases (test x) (any test xs) e)
  where
    go : (any test xs ≡ true → (k : ℕ) × (k < length xs) × (test (get_or xs k d) ≡ true)) → (test x ≡ true) ⊎ (any test xs ≡ true) → (k : ℕ) × (k < length (x ∷ xs)) × (test (get_or (x ∷ xs) k d) ≡ true)
    go ih (inl a) = (0, omega arith, a)
    go ih (inr a) = let r = ih a in let l = r.1 in (suc r.0, omega arith, r.2)

-- no hint of a place
pub unhinted : (xs : List Hint) (q : ℕ) → ((k : ℕ) → k < length xs → place_on xs k ≡ q → ⊥) → (h : ℕ) → hinted h q xs ≡ false
unhinted xs q never h = go (hinted h q xs) refl
  where
    go : (b : Bool) → hinted h q xs ≡ b → hinted h q xs ≡ false
    go true e =
        let r = any_place (is_hint h q) xs blank e in
        let x = get_or xs r.0 blank in
        absurd (never r.0 r.1 (eqb-true x.place q (and_parts (eqb x.hash h) (eqb x.place q) r.2).1))
    go false e = e

pub no_hint : (xs : List Hint) (q : ℕ) (o : Option ℕ) → MatchOption o (AllWithin (λ (x : Hint). x.place ≢ q) xs 0 (length xs)) (λ i. (i < length xs) × HoldsAt (λ (x : Hint). x.place ≡ q) xs i × AllWithin (λ (x : Hint). x.place ≢ q) xs 0 i) → MatchOption o ((h : ℕ) → hinted h q xs ≡ false) (λ k. (k < length xs) × (place_on xs k ≡ q))
no_hint xs q None h = λ k. unhinted xs q (λ i l e. h i blank (omega arith) l e) k
no_hint xs q (Some i) h = (h.0, h.1 blank)
