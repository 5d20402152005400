-- The normal form of a zone's text: one line a set, one space between pieces. Assumes nothing.
use Rattle.std.specs.Prelude.{ℕ, ◌+◌, ◌/◌, ◌%◌, Bool, true, cond, not, ◌&&◌, List, [], ◌∷◌, ◌++◌, map, length, drop, codes, ◌==◌, nat_le, nat_lt}
use Rattle.std.specs.Fmt.{decimal}
use Rattle.std.specs.List.{list_all}
use Rattle.names.specs.Labels.{written}
use Rattle.names.specs.Order.{within}
use Rattle.meaning.specs.Model.{Content, Addresses, Texts, Others, AliasOf, Delegated, Set, Zone}
use Rattle.zonetext.specs.Division.{Piece, Word, Text}

-- ---- a line

abbrev pub piece_text : Piece → List ℕ
piece_text (Word w) = w
piece_text (Text t) = 34 ∷ (t ++ 34 ∷ [])

-- each behind a space
unfoldable pub pieces_text : List Piece → List ℕ
pieces_text [] = []
pieces_text (p ∷ ps) = 32 ∷ (piece_text p ++ pieces_text ps)

-- a word that says what the pieces behind it mean
abbrev pub line_text : List ℕ → List Piece → List ℕ
line_text verb ps = verb ++ pieces_text ps

-- ---- numbers and names

abbrev pub number_piece : ℕ → Piece
number_piece n = Word (decimal n)

-- a whole name, with its last dot
abbrev pub whole : List (List ℕ) → List ℕ
whole [] = written []
whole (l ∷ ls) = written (l ∷ ls) ++ 46 ∷ []

abbrev pub is_below : List (List ℕ) → List (List ℕ) → Bool
is_below apex n = within apex n && nat_lt (length apex) (length n)

-- short where it stands below the apex
abbrev pub name_text : List (List ℕ) → List (List ℕ) → List ℕ
name_text apex n = cond (is_below apex n) (written (drop (length apex) n)) (whole n)

abbrev pub name_piece : List (List ℕ) → List (List ℕ) → Piece
name_piece apex n = Word (name_text apex n)

-- ---- data

-- small digits
abbrev pub hex_digit : ℕ → ℕ
hex_digit d = cond (nat_lt d 10) (48 + d) (87 + d)

-- the higher digit of each byte first
unfoldable pub hexadecimal : List ℕ → List ℕ
hexadecimal [] = []
hexadecimal (b ∷ bs) = hex_digit (b / 16) ∷ hex_digit (b % 16) ∷ hexadecimal bs

abbrev pub address_piece : List ℕ → Piece
address_piece a = Word (hexadecimal a)

-- what has no bytes can't be a word
abbrev pub other_piece : List ℕ → Piece
other_piece [] = Text []
other_piece (b ∷ bs) = Word (hexadecimal (b ∷ bs))

abbrev pub data_pieces : List (List ℕ) → Content → List Piece
data_pieces apex (Addresses ps) = map address_piece ps
data_pieces apex (Texts ps) = map Text ps
data_pieces apex (Others ps) = map other_piece ps
data_pieces apex (AliasOf n) = name_piece apex n ∷ []
data_pieces apex (Delegated d) = map address_piece d.servers

-- ---- the lines of a zone, each with a line end

abbrev pub set_pieces : List (List ℕ) → Set → List Piece
set_pieces apex s = name_piece apex s.name ∷ number_piece s.kind ∷ number_piece s.ttl ∷ data_pieces apex s.content

abbrev pub set_line : List (List ℕ) → Set → List ℕ
set_line apex s = line_text (codes "set") (set_pieces apex s)

unfoldable pub sets_text : List (List ℕ) → List Set → List ℕ
sets_text apex [] = []
sets_text apex (s ∷ ss) = set_line apex s ++ (10 ∷ sets_text apex ss)

abbrev pub top_line : Zone → List ℕ
top_line z = line_text (codes "top") (Word (whole z.apex) ∷ [])

abbrev pub number_line : Zone → List ℕ
number_line z = line_text (codes "number") (number_piece z.serial ∷ [])

abbrev pub times_line : Zone → List ℕ
times_line z = line_text (codes "times") (number_piece z.negative ∷ number_piece z.refresh ∷ number_piece z.expire ∷ [])

-- those before the sets, and what comes behind them
abbrev pub heads_before : Zone → List ℕ → List ℕ
heads_before z rest = top_line z ++ (10 ∷ (number_line z ++ (10 ∷ (times_line z ++ (10 ∷ rest)))))

unfoldable pub written_zone : Zone → List ℕ
written_zone z = heads_before z (sets_text z.apex z.sets)

-- ---- what a text can hold

-- between quotes neither a quote nor a line end can stand
abbrev pub holds_byte : ℕ → Bool
holds_byte b = not (b == 34) && not (b == 10)

abbrev pub holds_text : List ℕ → Bool
holds_text t = list_all holds_byte t

abbrev pub holds_data : Content → Bool
holds_data (Addresses ps) = true
holds_data (Texts ps) = list_all holds_text ps
holds_data (Others ps) = true
holds_data (AliasOf n) = true
holds_data (Delegated d) = true

-- at most 1,200 bytes of a line are read
abbrev pub holds_set : List (List ℕ) → Set → Bool
holds_set apex s = holds_data s.content && nat_le (length (set_line apex s)) 1200

abbrev pub holds : Zone → Bool
holds z = list_all (holds_set z.apex) z.sets
