-- Sets that pass a test, as the code picks them.
use Rattle.std.proofs.Common.{◌≡◌, Bool, true, false, cond, List, [], ◌∷◌, map, filter, refl, ap, ◌∙◌}
use Rattle.meaning.specs.Model.{Set}
use Rattle.meaning.specs.Laws.{keep}

module _ {X Y : Type 0} (test : Set → Bool) (f : X → Set) (g : Y → X) where
  kept : (xs : List X) → map f (filter (λ x. test (f x)) xs) ≡ keep test (map f xs)
  unfolding keep
  kept [] = refl
  kept (x ∷ xs) = go (test (f x)) (kept xs)
    where
      go : (b : Bool) → map f (filter (λ x. test (f x)) xs) ≡ keep test (map f xs) → map f (cond b (x ∷ filter (λ x. test (f x)) xs) (filter (λ x. test (f x)) xs)) ≡ cond b (f x ∷ keep test (map f xs)) (keep test (map f xs))
      go true ih = ap (λ ss. f x ∷ ss) ih
      go false ih = ih

  both : (ys : List Y) → map (λ y. f (g y)) ys ≡ map f (map g ys)
  both [] = refl
  both (y ∷ ys) = ap (λ ss. f (g y) ∷ ss) (both ys)

  pub picked : (ys : List Y) (xs : List X) → map g ys ≡ filter (λ x. test (f x)) xs → map (λ y. f (g y)) ys ≡ keep test (map f xs)
  picked ys xs e = both ys ∙ ap (map f) e ∙ kept xs
