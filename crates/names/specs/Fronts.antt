-- The first bytes of a label as one number: most names are told apart by such numbers alone. Assumes nothing.
use Rattle.std.specs.Prelude.{ℕ, zero, suc, ◌+◌, ◌*◌, List, [], ◌∷◌, drop}

-- so many bytes more behind those of a number; zeros where the label has none left
unfoldable pub packed : ℕ → ℕ → List ℕ → ℕ
packed zero sum l = sum
packed (suc n) sum [] = packed n (sum * 256) []
packed (suc n) sum (b ∷ bs) = packed n (sum * 256 + b) bs

-- a label's first eight bytes, the first of them the highest
abbrev pub front : List ℕ → ℕ
front l = packed 8 0 l

abbrev pub first_front : List (List ℕ) → ℕ
first_front [] = 0
first_front (l ∷ ls) = front l

-- of a name's label at a depth; 0 where there is none
unfoldable pub front_below : ℕ → List (List ℕ) → ℕ
front_below depth ls = first_front (drop depth ls)
