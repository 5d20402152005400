-- What a lent slice leaves behind, a push, and a removal.
use Rattle.std.proofs.Common.{◌≡◌, ℕ, ◌<◌, ◌≤◌, List, [], ◌∷◌, ◌++◌, map, length, get_or, set, take, Ok, Err, MatchResult, Result, Some, None, MatchOption, Option, ap, ◌∙◌, append-nil, length-set, arith}
use Rattle.std.specs.List.{remove}
use Rattle.std.proofs.lemmas.List.{drop_all, take_all, map-set}
use Rattle.bounded.specs.Lends.{written}

-- all of one that is as long as the elements were
pub written_all : {X : Type 0} (xs ys : List X) → length ys ≡ length xs → written xs ys ≡ ys
written_all xs ys e = ap (λ zs. take (length xs) (ys ++ zs)) (drop_all (length ys) xs (omega arith)) ∙ ap (take (length xs)) (append-nil ys) ∙ take_all (length xs) ys (omega arith)

-- one element written
pub written_one : {X : Type 0} (xs ys : List X) (i : ℕ) (x : X) → ys ≡ xs → written xs (set ys i x) ≡ set xs i x
written_one xs ys i x e = let l = length-set ys i x in let m = ap length e in written_all xs (set ys i x) (omega arith) ∙ ap (λ zs. set zs i x) e

-- the same as what the elements stand for
pub written_as : {X Y : Type 0} (f : X → Y) (xs ys : List X) (i : ℕ) (x : X) → ys ≡ xs → map f (written xs (set ys i x)) ≡ set (map f xs) i (f x)
written_as f xs ys i x e = ap (map f) (written_one xs ys i x e) ∙ map-set f xs i x

-- what was pushed where there was room
pub pushed : {X : Type 0} (n : ℕ) (xs ys : List X) (x : X) (r : Result (Unit {0}) X) → MatchResult r (λ _. (length xs < n) × (ys ≡ xs ++ x ∷ [])) (λ y. (n ≤ length xs) × (y ≡ x) × (ys ≡ xs)) → length xs < n → ys ≡ xs ++ x ∷ []
pushed n xs ys x (Ok u) h l = h.1
pushed n xs ys x (Err y) h l = absurd (omega (arith, h.0))

-- what is left without an element that there was
pub removed : {X : Type 0} (n : ℕ) (xs ys : List X) (i : ℕ) (o : Option X) → MatchOption o ((length xs ≤ i) × (ys ≡ xs)) (λ x. (i < length xs) × (x ≡ get_or xs i x) × (ys ≡ remove xs i) × (length ys < n)) → i < length xs → (ys ≡ remove xs i) × (length ys < n)
removed n xs ys i (Some x) h l = (h.2, h.3)
removed n xs ys i None h l = absurd (omega (arith, h.0))
