-- How a name lies in memory: the bytes of its labels one behind the other, and where each label ends.
use Rattle.std.specs.Prelude.{ℕ, Bool, ◌&&◌, List, [], ◌∷◌, nat_le, nat_lt, slice_index}
use Rattle.std.specs.List.{between}

-- the labels that end at es, the first of which begins at s
unfoldable pub pieces : ℕ → List ℕ → List ℕ → List (List ℕ)
pieces s [] bs = []
pieces s (e ∷ es) bs = between s e bs ∷ pieces e es bs

-- each end lies behind the one before it, and the last within the room
unfoldable pub rising : ℕ → List ℕ → ℕ → Bool
rising s [] room = nat_le s room
rising s (e ∷ es) room = nat_lt s e && rising e es room

-- where the label at a depth begins; at the depth of no label, where the last one ends
abbrev pub start_at : List ℕ → ℕ → ℕ
start_at es depth = slice_index (0 ∷ es) depth
