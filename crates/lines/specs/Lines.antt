-- What is read of a line, its words and its numbers. Assumes nothing.
use Rattle.std.specs.Prelude.{◌≡◌, ℕ, suc, ◌+◌, ◌-◌, ◌*◌, ◌^◌, Bool, true, false, cond, not, ◌&&◌, ◌||◌, List, [], ◌∷◌, ◌++◌, length, take, Some, None, Option, ◌==◌, nat_le, nat_lt}

-- a space or a tab
abbrev pub blank : ℕ → Bool
blank b = b == 32 || b == 9

abbrev pub in_word : ℕ → Bool
in_word b = not (blank b)

-- how many bytes at the front pass a test
unfoldable pub run : (ℕ → Bool) → List ℕ → ℕ
run test [] = 0
run test (b ∷ bs) = cond (test b) (suc (run test bs)) 0

-- what stands before the first semicolon
abbrev pub readable : ℕ → Bool
readable b = not (b == 59)

abbrev pub read_part : List ℕ → List ℕ
read_part line = take (run readable line) line

-- does a word go on here
abbrev pub goes_on : List ℕ → Bool
goes_on [] = false
goes_on (b ∷ bs) = in_word b

-- a byte before a row of words: part of the first where that goes on, else a word of its own
abbrev pub before : ℕ → Bool → List (List ℕ) → List (List ℕ)
before b true [] = (b ∷ []) ∷ []
before b true (w ∷ ws) = (b ∷ w) ∷ ws
before b false ws = (b ∷ []) ∷ ws

-- the words of a line: the longest rows of bytes that are no blanks
unfoldable pub words : List ℕ → List (List ℕ)
words [] = []
words (b ∷ bs) = cond (blank b) (words bs) (before b (goes_on bs) (words bs))

abbrev pub digit : ℕ → Bool
digit b = nat_le 48 b && nat_le b 57

abbrev pub digits : List ℕ → Bool
digits [] = true
digits (b ∷ bs) = digit b && digits bs

-- the number that the digits give behind those before them
unfoldable pub value_from : ℕ → List ℕ → ℕ
value_from n [] = n
value_from n (b ∷ bs) = value_from (n * 10 + (b - 48)) bs

-- one digit more, within 64 bits
abbrev pub with_digit : ℕ → ℕ → Option ℕ
with_digit n b = cond (digit b && nat_lt (n * 10 + (b - 48)) (2 ^ 64)) (Some (n * 10 + (b - 48))) None

-- one or more digits, and a number of 64 bits
unfoldable pub number_in : List ℕ → Option ℕ
number_in w = cond (nat_lt 0 (length w) && digits w && nat_lt (value_from 0 w) (2 ^ 64)) (Some (value_from 0 w)) None

-- a word as a line can hold it: one or more bytes, none of them a blank or a semicolon
abbrev pub plain : List ℕ → Bool
plain [] = true
plain (b ∷ bs) = in_word b && readable b && plain bs

abbrev pub field : List ℕ → Bool
field w = nat_lt 0 (length w) && plain w

abbrev pub fields : List (List ℕ) → Bool
fields [] = true
fields (w ∷ ws) = field w && fields ws

-- words written as a line, with a space between each two
unfoldable pub line_of : List (List ℕ) → List ℕ
line_of [] = []
line_of (w ∷ []) = w
line_of (w ∷ v ∷ ws) = w ++ (32 ∷ line_of (v ∷ ws))

pub record LineLaws : Type 0 where
  -- what was written as a line of words is read as a whole, and as those words
  pub whole : (ws : List (List ℕ)) → fields ws ≡ true → read_part (line_of ws) ≡ line_of ws
  pub row : (ws : List (List ℕ)) → fields ws ≡ true → words (line_of ws) ≡ ws
  -- a comment changes nothing
  pub comment : (line rest : List ℕ) → read_part (line ++ 59 ∷ rest) ≡ read_part line
