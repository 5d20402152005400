-- A loop over elements in place, by what they stand for.
use Rattle.std.proofs.Common.{◌≡◌, ℕ, zero, suc, ◌+◌, ◌<◌, List, [], ◌∷◌, ◌++◌, map, length, get_or, take, drop, set, ap, ◌∙◌, subst, arith}

first_is : {A : Type 0} (a b : A) (xs ys : List A) → a ∷ xs ≡ b ∷ ys → a ≡ b
first_is a b xs ys q = cc

rest_is : {A : Type 0} (a b : A) (xs ys : List A) → a ∷ xs ≡ b ∷ ys → xs ≡ ys
rest_is a b xs ys q = cc

module _ {X Y : Type 0} (f : X → Y) (g : Y → Y) where
  -- of the elements before, those so far are changed
  abbrev pub Changed : List X → List X → ℕ → Type 0
  Changed xs ys i = map f ys ≡ map g (map f (take i xs)) ++ map f (drop i xs)

  one_changed : (xs ys : List X) (i : ℕ) (x y : X) → i < length xs → length ys ≡ length xs → Changed xs ys i → x ≡ get_or ys i x → f y ≡ g (f x) → Changed xs (set ys i y) (suc i)
  one_changed [] ys i x y l k h e r = absurd (omega arith)
  one_changed (z ∷ xs) [] i x y l k h e r = absurd (omega arith)
  one_changed (z ∷ xs) (u ∷ ys) zero x y l k h e r = heads r
    where
      heads : f y ≡ g (f x) → f y ∷ map f ys ≡ g (f z) ∷ map f xs
      heads q = λ j. (q ∙ ap g (ap f e ∙ first_is (f u) (f z) (map f ys) (map f xs) h)) j ∷ rest_is (f u) (f z) (map f ys) (map f xs) h j
  one_changed (z ∷ xs) (u ∷ ys) (suc i) x y l k h e r =
      λ j. first_is (f u) (g (f z)) _ _ h j ∷ one_changed xs ys i x y (omega arith) (omega arith) (rest_is (f u) (g (f z)) _ _ h) e r j

  pub next_changed : (xs ys : List X) (i : ℕ) (x y : X) → i < length xs → length ys ≡ length xs → Changed xs ys i → x ≡ get_or ys i x → f y ≡ g (f x) → Changed xs (set ys i y) (i + 1)
  next_changed xs ys i x y l k h e r = subst (Changed xs (set ys i y)) (let n : suc i ≡ i + 1 = omega arith in n) (one_changed xs ys i x y l k h e r)
