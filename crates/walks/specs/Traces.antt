-- What a `Trace` stands for.
use Rattle.std.specs.Prelude.{ℕ, Bool, true, cond, List, [], ◌∷◌, ◌++◌, length, take, nat_lt, slice_set}
use Rattle.walks.specs.declared.trace.Trace.{Trace}

unfoldable pub places_of : Trace → List ℕ
places_of t = take t.count t.places

abbrev pub one_place : ℕ → List ℕ → List ℕ
one_place p ps = cond (nat_lt (length ps) 24) (ps ++ (p ∷ [])) ps

-- the flags with those at these places set; a place past their end is none
unfoldable pub marked : List ℕ → List Bool → List Bool
marked [] us = us
marked (p ∷ ps) us = marked ps (slice_set us p true)
