-- Labels and names as lists: which are proper, and how they are written. Assumes nothing.
use Rattle.std.specs.Prelude.{ℕ, Bool, true, ◌&&◌, ◌||◌, List, [], ◌∷◌, ◌++◌, reverse, length, ◌==◌, nat_le}

-- a small letter, a digit or a hyphen
abbrev pub label_byte : ℕ → Bool
label_byte b = (nat_le 97 b && nat_le b 122) || (nat_le 48 b && nat_le b 57) || b == 45

abbrev pub label_bytes : List ℕ → Bool
label_bytes [] = true
label_bytes (b ∷ bs) = label_byte b && label_bytes bs

-- a label: 1 to 63 such bytes
abbrev pub proper_label : List ℕ → Bool
proper_label l = nat_le 1 (length l) && nat_le (length l) 63 && label_bytes l

abbrev pub proper_labels : List (List ℕ) → Bool
proper_labels [] = true
proper_labels (l ∷ ls) = proper_label l && proper_labels ls

-- pieces of text with a dot between each two
unfoldable pub dotted : List (List ℕ) → List ℕ
dotted [] = []
dotted (l ∷ []) = l
dotted (l ∷ m ∷ ls) = l ++ (46 ∷ dotted (m ∷ ls))

-- a name is the list of its labels from the root down; it is written from the lowest label up, the root as a dot
unfoldable pub written : List (List ℕ) → List ℕ
written [] = 46 ∷ []
written (l ∷ ls) = dotted (reverse (l ∷ ls))

-- the limits of a name: 16 labels, 255 bytes as written
unfoldable pub proper : List (List ℕ) → Bool
proper ls = nat_le (length ls) 16 && proper_labels ls && nat_le (length (written ls)) 255
