-- The first element that passes a test, those that pass, and whether any does.
use Rattle.std.specs.Prelude.{Bool, false, cond, ◌||◌, List, [], ◌∷◌, Some, None, Option}

module _ {A : Type 0} (test : A → Bool) where
  unfoldable pub first : List A → Option A
  first [] = None
  first (x ∷ xs) = cond (test x) (Some x) (first xs)

  unfoldable pub kept : List A → List A
  kept [] = []
  kept (x ∷ xs) = cond (test x) (x ∷ kept xs) (kept xs)

  unfoldable pub any : List A → Bool
  any [] = false
  any (x ∷ xs) = test x || any xs
