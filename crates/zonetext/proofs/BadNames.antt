-- A bad name among pieces, as a search finds it.
use Rattle.std.proofs.Common.{◌≡◌, ℕ, ◌||◌, List, [], ◌∷◌, map, refl, ap}
use Rattle.std.specs.List.{list_any}
use Rattle.zonetext.specs.declared.division.Piece as declared
use Rattle.zonetext.specs.Fields.{bad_name, some_bad_name}
use Rattle.zonetext.specs.Readings.{piece_of}

pub some_bad : (apex : List (List ℕ)) (xs : List declared.Piece) → list_any (λ x. bad_name apex (piece_of x)) xs ≡ some_bad_name apex (map piece_of xs)
some_bad apex [] = refl
some_bad apex (x ∷ xs) = ap (λ b. bad_name apex (piece_of x) || b) (some_bad apex xs)
