-- What is read of a line, and how it is divided into words and texts in quotes. Assumes nothing.
use Rattle.std.specs.Prelude.{ℕ, zero, suc, Bool, true, false, cond, not, ◌&&◌, List, [], ◌∷◌, length, take, drop, Some, None, Option, ◌==◌, nat_le}
use Rattle.std.specs.Option.{option_map}
use Rattle.lines.specs.Lines.{blank, run}

-- a word, or what stands between two quotes
pub data Piece : Type 0 where
  Word : (bytes : List ℕ) → Piece
  Text : (bytes : List ℕ) → Piece

-- ---- what is read of a line

-- whether a place is in quotes behind a byte
abbrev pub quoted_after : Bool → ℕ → Bool
quoted_after quoted b = cond (b == 34) (not quoted) quoted

unfoldable pub read_from : Bool → List ℕ → List ℕ
read_from quoted [] = []
read_from quoted (b ∷ bs) = cond (not quoted && b == 59) [] (b ∷ read_from (quoted_after quoted b) bs)

-- what stands before the first semicolon that isn't in quotes; the rest is a comment
abbrev pub read_part : List ℕ → List ℕ
read_part line = read_from false line

-- ---- its pieces

-- bytes of words: printable ones, but no quote
abbrev pub in_word : ℕ → Bool
in_word b = nat_le 33 b && nat_le b 126 && not (b == 34)

abbrev pub in_text : ℕ → Bool
in_text b = not (b == 34)

-- a piece ends with the line, or before a blank
abbrev pub may_end : List ℕ → Bool
may_end [] = true
may_end (b ∷ bs) = blank b

-- the first piece of what is left of a line, and what is left behind it
pub data First : Type 0 where
  Nothing : First
  Faulty : First
  Has : (piece : Piece) → (rest : List ℕ) → First

-- a text, and what is left from the quote that closes it on
abbrev pub closed : List ℕ → List ℕ → First
closed t [] = Faulty
closed t (q ∷ rest) = cond (may_end rest) (Has (Text t) rest) Faulty

abbrev pub worded : List ℕ → List ℕ → First
worded [] rest = Faulty
worded (b ∷ w) rest = cond (may_end rest) (Has (Word (b ∷ w)) rest) Faulty

abbrev pub begun : List ℕ → First
begun [] = Nothing
begun (b ∷ bs) =
    cond (b == 34) (closed (take (run in_text bs) bs) (drop (run in_text bs) bs))
    (worded (take (run in_word (b ∷ bs)) (b ∷ bs)) (drop (run in_word (b ∷ bs)) (b ∷ bs)))

-- behind the blanks
abbrev pub first_piece : List ℕ → First
first_piece r = begun (drop (run blank r) r)

abbrev pub on_first : (List ℕ → Option (List Piece)) → First → Option (List Piece)
on_first go Nothing = Some []
on_first go Faulty = None
on_first go (Has p rest) = option_map (λ ps. p ∷ ps) (go rest)

-- at most so many pieces
unfoldable pub pieces_upto : ℕ → List ℕ → Option (List Piece)
pieces_upto zero r = Some []
pieces_upto (suc n) r = on_first (λ rest. pieces_upto n rest) (first_piece r)

-- all of them: each takes a byte at least
abbrev pub pieces_in : List ℕ → Option (List Piece)
pieces_in r = pieces_upto (length r) r

-- the pieces of a line, if it can be divided, and at most 1,200 bytes of it are read
abbrev pub pieces_of : List ℕ → Option (List Piece)
pieces_of line = cond (nat_le (length (read_part line)) 1200) (pieces_in (read_part line)) None
