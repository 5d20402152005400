-- Looking through the hints of a hash finds what a look through all entries finds.
use Rattle.std.proofs.Common.{◌≡◌, ℕ, zero, suc, ◌+◌, ◌<◌, ◌≤◌, Bool, true, false, cond, eqb, leb, ◌⊎◌, List, [], ◌∷◌, map, length, get_or, take, drop, Some, None, Option, sym, refl, ap, ◌∙◌, subst, inl, inr, true≢false, arith}
use Rattle.std.specs.List.{slice_get, filter, find, take_while, prefix_len}
use Rattle.std.specs.Option.{option_map}
use Rattle.std.proofs.lemmas.Option.{slice_get-get_or, slice_get_past}
use Rattle.std.proofs.lemmas.Bool.{cond-true, cond-false, and_parts, eqb-true, eq-eqb, ne_eqb, le-leb, lt-leb, cases_lt, cases_order, cases_Bool, or_cases}
use Rattle.protocol.specs.Lists.{any}
use Rattle.protocol.specs.World.{Entry, is_key}
use Rattle.protocol.proofs.Lists.{some_is, some_none}
use Rattle.machine.specs.Store.{place_of, one_a_key}
use Rattle.machine.proofs.Keys.{key_so}
use Rattle.cache.specs.declared.index.Hint.{Hint}
use Rattle.cache.specs.Hashes.{hash_of}
use Rattle.cache.specs.Hints.{is_hint, hinted, hash_at, nobody, hash_for, Covers}
use Rattle.cache.specs.Caches.{key_at}
use Rattle.cache.proofs.Places.{probe, place_of_lem, no_place}

-- ---- the hints of a hash

module _ (h : ℕ) where
  abbrev pub not_lower : Hint → Bool
  not_lower x = leb h x.hash

  abbrev pub has : Hint → Bool
  has x = eqb x.hash h

  all_from : (xs : List Hint) → ((k : ℕ) → k < length xs → h ≤ hash_at xs k) → xs ≡ filter not_lower xs
  all_from [] high = refl
  all_from (x ∷ xs) high =
      ap (λ ys. x ∷ ys) (all_from xs (λ k l. high (suc k) (omega arith)))
      ∙ sym (cond-true (leb h x.hash) (x ∷ filter not_lower xs) (filter not_lower xs) (le-leb h x.hash (high 0 (omega arith))))

  -- those of no lower hash stand behind the others
  from_place : (xs : List Hint) (n : ℕ) → ((k : ℕ) → k < n → hash_at xs k < h) → ((k : ℕ) → n ≤ k → k < length xs → h ≤ hash_at xs k) → drop n xs ≡ filter not_lower xs
  from_place xs zero low high = all_from xs (λ k l. high k (omega arith) l)
  from_place [] (suc n) low high = refl
  from_place (x ∷ xs) (suc n) low high =
      from_place xs n (λ k l. low (suc k) (omega arith)) (λ k l m. high (suc k) (omega arith) (omega arith))
      ∙ sym (cond-false (leb h x.hash) (x ∷ filter not_lower xs) (filter not_lower xs) (lt-leb h x.hash (low 0 (omega arith))))

  none_above : (xs : List Hint) → ((k : ℕ) → k < length xs → h < hash_at xs k) → [] ≡ filter has xs
  none_above [] high = refl
  none_above (x ∷ xs) high =
      none_above xs (λ k l. high (suc k) (omega arith))
      ∙ sym (cond-false (eqb x.hash h) (x ∷ filter has xs) (filter has xs) (ne_eqb x.hash h (λ e. let l = high 0 (omega arith) in absurd (omega arith))))

  taken : (x : Hint) (ys : List Hint) → has x ≡ true → take_while has (x ∷ ys) ≡ x ∷ take_while has ys
  taken x ys t =
      let e : 1 + prefix_len has ys ≡ suc (prefix_len has ys) = omega arith in
      ap (λ b. take (cond b (1 + prefix_len has ys) 0) (x ∷ ys)) t ∙ ap (λ m. take m (x ∷ ys)) e

  ended : (x : Hint) (ys : List Hint) → has x ≡ false → take_while has (x ∷ ys) ≡ []
  ended x ys t = ap (λ b. take (cond b (1 + prefix_len has ys) 0) (x ∷ ys)) t

  -- and those of the hash in front of the rest
  run_behind : (xs : List Hint) → ((i j : ℕ) → i ≤ j → j < length xs → hash_at xs i ≤ hash_at xs j) → take_while has (filter not_lower xs) ≡ filter has xs
  run_behind [] c = refl
  run_behind (x ∷ xs) c = go (cases_order x.hash h) (run_behind xs (λ i j l m. c (suc i) (suc j) (omega arith) (omega arith)))
    where
      first : h ≤ x.hash → filter not_lower (x ∷ xs) ≡ x ∷ filter not_lower xs
      first l = cond-true (leb h x.hash) (x ∷ filter not_lower xs) (filter not_lower xs) (le-leb h x.hash l)

      go : (x.hash ≡ h) ⊎ ((x.hash < h) ⊎ (h < x.hash)) → take_while has (filter not_lower xs) ≡ filter has xs → take_while has (filter not_lower (x ∷ xs)) ≡ filter has (x ∷ xs)
      go (inl e) ih =
          let t = eq-eqb x.hash h e in
          ap (take_while has) (first (omega arith)) ∙ taken x (filter not_lower xs) t ∙ ap (λ ys. x ∷ ys) ih ∙ sym (cond-true (eqb x.hash h) (x ∷ filter has xs) (filter has xs) t)
      go (inr (inl l)) ih =
          ap (take_while has) (cond-false (leb h x.hash) (x ∷ filter not_lower xs) (filter not_lower xs) (lt-leb h x.hash l))
          ∙ ih ∙ sym (cond-false (eqb x.hash h) (x ∷ filter has xs) (filter has xs) (ne_eqb x.hash h (λ e. absurd (omega arith))))
      go (inr (inr l)) ih =
          ap (take_while has) (first (omega arith)) ∙ ended x (filter not_lower xs) (ne_eqb x.hash h (λ e. absurd (omega arith)))
          ∙ none_above (x ∷ xs) (λ k m. let q = c 0 k (omega arith) m in omega arith)

  -- the hints of the hash stand side by side
  pub run : (xs : List Hint) (n : ℕ) → ((i j : ℕ) → i ≤ j → j < length xs → hash_at xs i ≤ hash_at xs j) → ((k : ℕ) → k < n → hash_at xs k < h) → ((k : ℕ) → n ≤ k → k < length xs → h ≤ hash_at xs k) → take_while has (drop n xs) ≡ filter has xs
  run xs n c low high = ap (take_while has) (from_place xs n low high) ∙ run_behind xs c

  -- ---- the first of their places that passes a test

  module _ (test : ℕ → Bool) where
    places : List Hint → List ℕ
    places xs = map (λ (x : Hint). x.place) (filter has xs)

    some_found : (zs : List ℕ) (q : ℕ) → find test zs ≡ Some q → test q ≡ true
    some_found [] q e = absurd (some_none q e)
    some_found (z ∷ zs) q e = go (cases_Bool (test z)) (some_found zs q)
      where
        go : (test z ≡ true) ⊎ (test z ≡ false) → (find test zs ≡ Some q → test q ≡ true) → test q ≡ true
        go (inl t) ih = subst (λ y. test y ≡ true) (some_is z q (sym (cond-true (test z) (Some z) (find test zs) t) ∙ e)) t
        go (inr t) ih = ih (sym (cond-false (test z) (Some z) (find test zs) t) ∙ e)

    none_found : (xs : List Hint) → find test (places xs) ≡ None → (j : ℕ) → hinted h j xs ≡ true → test j ≡ false
    unfolding any places
    none_found [] e j t = absurd (true≢false (sym t))
    none_found (x ∷ xs) e j t = go (cases_Bool (eqb x.hash h)) (cases_Bool (test x.place)) (or_cases (is_hint h j x) (hinted h j xs) t) (none_found xs)
      where
        at : is_hint h j x ≡ true → (x.hash ≡ h) × (x.place ≡ j)
        at c = let p = and_parts (eqb x.hash h) (eqb x.place j) c in (eqb-true x.hash h p.0, eqb-true x.place j p.1)

        rest : Option ℕ
        rest = find test (places xs)

        with_head : eqb x.hash h ≡ true → cond (test x.place) (Some x.place) (find test (places xs)) ≡ None
        with_head a = sym (ap (λ ys. find test (map (λ (y : Hint). y.place) ys)) (cond-true (eqb x.hash h) (x ∷ filter has xs) (filter has xs) a)) ∙ e

        go : (eqb x.hash h ≡ true) ⊎ (eqb x.hash h ≡ false) → (test x.place ≡ true) ⊎ (test x.place ≡ false) → (is_hint h j x ≡ true) ⊎ (hinted h j xs ≡ true) → (find test (places xs) ≡ None → (i : ℕ) → hinted h i xs ≡ true → test i ≡ false) → test j ≡ false
        go (inl a) (inl b) c ih = absurd (some_none x.place (sym (with_head a) ∙ cond-true (test x.place) (Some x.place) (find test (places xs)) b))
        go (inl a) (inr b) (inl c) ih = ap test (sym (at c).1) ∙ b
        go (inl a) (inr b) (inr c) ih = ih (sym (cond-false (test x.place) (Some x.place) (find test (places xs)) b) ∙ with_head a) j c
        go (inr a) b (inl c) ih = absurd (true≢false (sym (eq-eqb x.hash h (at c).0) ∙ a))
        go (inr a) b (inr c) ih = ih (sym (ap (λ ys. find test (map (λ (y : Hint). y.place) ys)) (cond-false (eqb x.hash h) (x ∷ filter has xs) (filter has xs) a)) ∙ e) j c

-- the first hint whose place passes a test has the first place that does
pub first_place : (test : ℕ → Bool) (xs : List Hint) → option_map (λ (x : Hint). x.place) (find (λ (x : Hint). test x.place) xs) ≡ find test (map (λ (x : Hint). x.place) xs)
first_place test [] = refl
first_place test (x ∷ xs) = go (test x.place) (first_place test xs)
  where
    go : (b : Bool) → option_map (λ (y : Hint). y.place) (find (λ (y : Hint). test y.place) xs) ≡ find test (map (λ (y : Hint). y.place) xs) → option_map (λ (y : Hint). y.place) (cond b (Some x) (find (λ (y : Hint). test y.place) xs)) ≡ cond b (Some x.place) (find test (map (λ (y : Hint). y.place) xs))
    go true ih = refl
    go false ih = ih

-- ---- the entry at a place

module _ (es : List Entry) (a n : List (List ℕ)) (k : ℕ) where
  leads : (q : ℕ) → one_a_key es ≡ true → key_at a n k (slice_get es q) ≡ true → Some q ≡ place_of (is_key a n k) es
  leads q o e = go (cases_lt q (length es))
    where
      go : (q < length es) ⊎ (length es ≤ q) → Some q ≡ place_of (is_key a n k) es
      go (inl l) = sym (place_of_lem (probe a n k) es q nobody o l (sym (ap (key_at a n k) (slice_get-get_or es q nobody l)) ∙ e))
      go (inr l) = absurd (true≢false (sym e ∙ ap (key_at a n k) (slice_get_past es q l)))

  same_hash : (f : Entry) → is_key a n k f ≡ true → hash_for f ≡ hash_of a n k
  same_hash f h = let s = key_so (probe a n k) f h in λ t. hash_of (s.apex_is t) (s.name_is t) (s.kind_is t)

  abbrev pub test : ℕ → Bool
  test i = key_at a n k (slice_get es i)

  -- what the search through the hints comes to
  pub looked : (xs : List Hint) → Covers xs es → one_a_key es ≡ true → find test (map (λ (x : Hint). x.place) (filter (has (hash_of a n k)) xs)) ≡ place_of (is_key a n k) es
  unfolding places
  looked xs c o = go (find test (places (hash_of a n k) test xs)) refl
    where
      none : find test (places (hash_of a n k) test xs) ≡ None → (j : ℕ) → j < length es → (b : Bool) → is_key a n k (get_or es j nobody) ≡ b → is_key a n k (get_or es j nobody) ≡ false
      none e j l true t =
          sym (ap (key_at a n k) (slice_get-get_or es j nobody l))
          ∙ none_found (hash_of a n k) test xs e j (ap (λ y. hinted y j xs) (sym (same_hash (get_or es j nobody) t)) ∙ c j l)
      none e j l false t = t

      go : (found : Option ℕ) → find test (places (hash_of a n k) test xs) ≡ found → find test (places (hash_of a n k) test xs) ≡ place_of (is_key a n k) es
      go (Some q) e = e ∙ leads q o (some_found (hash_of a n k) test (map (λ (x : Hint). x.place) (filter (has (hash_of a n k)) xs)) q e)
      go None e = e ∙ sym (no_place (is_key a n k) es nobody (λ j l. none e j l (is_key a n k (get_or es j nobody)) refl))
