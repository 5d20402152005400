-- The first element of a list that passes a test, where it stands, and those that pass: as a chain gives them, and as the machine says it.
use Rattle.std.proofs.Common.{◌≡◌, ℕ, suc, ◌+◌, ◌<◌, ◌≤◌, Bool, true, false, cond, List, [], ◌∷◌, map, length, get_or, Some, None, Option, sym, refl, ap, ◌∙◌, subst, arith}
use Rattle.std.specs.List.{find, filter, position, position_from, items_where_true}
use Rattle.std.specs.List.Retain.{IsFiltered}
use Rattle.std.specs.Option.{option_map}
use Rattle.std.proofs.lemmas.Iterator.Adapters.{position_from-zero}
use Rattle.std.proofs.lemmas.Bool.{cond-true, cond-false}
use Rattle.protocol.specs.Lists.{first, kept}
use Rattle.protocol.proofs.Lists.{first_here, first_there}
use Rattle.machine.specs.Store.{place_of}

module _ {A : Type 0} (test : A → Bool) where
  place_here : (x : A) (xs : List A) → test x ≡ true → place_of test (x ∷ xs) ≡ Some 0
  unfolding place_of
  place_here x xs h = cond-true (test x) (Some 0) (option_map suc (place_of test xs)) h

  place_there : (x : A) (xs : List A) → test x ≡ false → place_of test (x ∷ xs) ≡ option_map suc (place_of test xs)
  unfolding place_of
  place_there x xs h = cond-false (test x) (Some 0) (option_map suc (place_of test xs)) h

  -- the first that passes stands at a place, behind others that don't
  pub data Stands : List A → ℕ → Type 0 where
    at_head : (x : A) (xs : List A) → test x ≡ true → Stands (x ∷ xs) 0
    behind : (x : A) (xs : List A) (i : ℕ) → test x ≡ false → Stands xs i → Stands (x ∷ xs) (suc i)

  -- none passes
  pub data Lacks : List A → Type 0 where
    at_end : Lacks []
    past : (x : A) (xs : List A) → test x ≡ false → Lacks xs → Lacks (x ∷ xs)

  abbrev Seen : List A → Option ℕ → Type 0
  Seen xs None = Lacks xs
  Seen xs (Some i) = Stands xs i

  later : (x : A) (xs : List A) → test x ≡ false → (o : Option ℕ) → Seen xs o → Seen (x ∷ xs) (option_map suc o)
  later x xs f None s = past x xs f s
  later x xs f (Some i) s = behind x xs i f s

  seen : (xs : List A) → Seen xs (place_of test xs)
  unfolding place_of
  seen [] = at_end
  seen (x ∷ xs) = go (test x) refl (seen xs)
    where
      go : (b : Bool) → test x ≡ b → Seen xs (place_of test xs) → Seen (x ∷ xs) (cond (test x) (Some 0) (option_map suc (place_of test xs)))
      go true h s = subst (Seen (x ∷ xs)) (sym (place_here x xs h)) (at_head x xs h)
      go false h s = subst (Seen (x ∷ xs)) (sym (place_there x xs h)) (later x xs h (place_of test xs) s)

  pub stands : (xs : List A) (i : ℕ) → Some i ≡ place_of test xs → Stands xs i
  stands xs i h = subst (Seen xs) (sym h) (seen xs)

  pub lacks : (xs : List A) → None ≡ place_of test xs → Lacks xs
  lacks xs h = subst (Seen xs) (sym h) (seen xs)

  pub stands_within : (xs : List A) (i : ℕ) → Stands xs i → i < length xs
  stands_within xs i (at_head x ys h) = omega arith
  stands_within xs i (behind x ys j h s) = let l = stands_within ys j s in omega arith

  pub first_stands : (xs : List A) (i : ℕ) (d : A) → Stands xs i → first test xs ≡ Some (get_or xs i d)
  first_stands xs i d (at_head x ys h) = first_here test x ys h
  first_stands xs i d (behind x ys j h s) = first_there test x ys h ∙ first_stands ys j d s

  pub first_lacks : (xs : List A) → Lacks xs → first test xs ≡ None
  unfolding first
  first_lacks xs at_end = refl
  first_lacks xs (past x ys h s) = first_there test x ys h ∙ first_lacks ys s

-- ---- what a chain over the code's elements gives, as what they stand for

module _ {X Y : Type 0} (f : X → Y) (test : Y → Bool) where
  abbrev by_test : X → Bool
  by_test x = test (f x)

  pub first_of : (xs : List X) → option_map f (find by_test xs) ≡ first test (map f xs)
  unfolding first
  first_of [] = refl
  first_of (x ∷ xs) = go (test (f x)) refl (first_of xs)
    where
      go : (b : Bool) → test (f x) ≡ b → option_map f (find by_test xs) ≡ first test (map f xs) → option_map f (cond (test (f x)) (Some x) (find by_test xs)) ≡ cond (test (f x)) (Some (f x)) (first test (map f xs))
      go true h ih = ap (λ b. option_map f (cond b (Some x) (find by_test xs))) h ∙ sym (ap (λ b. cond b (Some (f x)) (first test (map f xs))) h)
      go false h ih = ap (λ b. option_map f (cond b (Some x) (find by_test xs))) h ∙ ih ∙ sym (ap (λ b. cond b (Some (f x)) (first test (map f xs))) h)

  shift : (i : ℕ) (o : Option ℕ) → option_map (λ j. i + 1 + j) o ≡ option_map (λ j. i + j) (option_map suc o)
  shift i None = refl
  shift i (Some j) = ap Some (omega arith)

  place_on : (i : ℕ) (xs : List X) → position_from by_test i xs ≡ option_map (λ j. i + j) (place_of test (map f xs))
  unfolding place_of
  place_on i [] = refl
  place_on i (x ∷ xs) = go (test (f x)) refl (place_on (i + 1) xs)
    where
      here : Bool → Option ℕ
      here b = cond b (Some i) (position_from by_test (i + 1) xs)

      there : Bool → Option ℕ
      there b = option_map (λ j. i + j) (cond b (Some 0) (option_map suc (place_of test (map f xs))))

      go : (b : Bool) → test (f x) ≡ b → position_from by_test (i + 1) xs ≡ option_map (λ j. i + 1 + j) (place_of test (map f xs)) → here (test (f x)) ≡ there (test (f x))
      go true h ih = let z : i ≡ i + 0 = omega arith in ap here h ∙ ap Some z ∙ sym (ap there h)
      go false h ih = ap here h ∙ ih ∙ shift i (place_of test (map f xs)) ∙ sym (ap there h)

  pub place_in : (xs : List X) → position by_test xs ≡ place_of test (map f xs)
  place_in xs = position_from-zero by_test xs ∙ place_on 0 xs ∙ go (place_of test (map f xs))
    where
      go : (o : Option ℕ) → option_map (λ j. 0 + j) o ≡ o
      go None = refl
      go (Some j) = ap Some (omega arith)

  pub kept_of : (xs : List X) → map f (filter by_test xs) ≡ kept test (map f xs)
  unfolding kept
  kept_of [] = refl
  kept_of (x ∷ xs) = go (test (f x)) refl (kept_of xs)
    where
      go : (b : Bool) → test (f x) ≡ b → map f (filter by_test xs) ≡ kept test (map f xs) → map f (cond (test (f x)) (x ∷ filter by_test xs) (filter by_test xs)) ≡ cond (test (f x)) (f x ∷ kept test (map f xs)) (kept test (map f xs))
      go true h ih = ap (λ b. map f (cond b (x ∷ filter by_test xs) (filter by_test xs))) h ∙ ap (λ ys. f x ∷ ys) ih ∙ sym (ap (λ b. cond b (f x ∷ kept test (map f xs)) (kept test (map f xs))) h)
      go false h ih = ap (λ b. map f (cond b (x ∷ filter by_test xs) (filter by_test xs))) h ∙ ih ∙ sym (ap (λ b. cond b (f x ∷ kept test (map f xs)) (kept test (map f xs))) h)

-- ---- what a closure lets stay is no longer than the list was

some_true : {X : Type 0} (bs : List Bool) (xs : List X) → length (items_where_true bs xs) ≤ length xs
some_true [] xs = omega arith
some_true (b ∷ bs) [] = omega arith
some_true (true ∷ bs) (x ∷ xs) = let l = some_true bs xs in omega arith
some_true (false ∷ bs) (x ∷ xs) = let l = some_true bs xs in omega arith

pub filtered_few : {X P : Type 0} (R : P → X → Bool → P → Type 0) (p : P) (xs ys : List X) → IsFiltered R p xs ys → length ys ≤ length xs
filtered_few R p xs ys h =
    let e = ap length h.4 in
    let l = some_true h.0 xs in
    omega arith
