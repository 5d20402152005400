-- What a piece of a line stands for: numbers, names, and data in hexadecimal or quotes. Assumes nothing.
use Rattle.std.specs.Prelude.{ℕ, ◌+◌, ◌-◌, ◌*◌, ◌^◌, Bool, true, false, cond, ◌&&◌, ◌||◌, List, [], ◌∷◌, length, Some, None, Ok, Err, Option, Result, ◌==◌, nat_le, nat_lt}
use Rattle.names.specs.declared.fault.Fault.{Fault}
use Rattle.names.specs.declared.fault.Fault.TheVariants.{Malformed, BadName, BadData}
use Rattle.names.specs.Reading.{read_below}
use Rattle.lines.specs.Lines.{number_in}
use Rattle.meaning.specs.Model.{Content, Addresses, Texts, Others, AliasOf, Delegated, delegates, aliases, fits, Set}
use Rattle.zonetext.specs.Division.{Piece, Word, Text}

-- ---- numbers

abbrev pub number_of : Piece → Option ℕ
number_of (Word w) = number_in w
number_of (Text t) = None

abbrev pub below : ℕ → Option ℕ → Option ℕ
below most None = None
below most (Some n) = cond (nat_lt n most) (Some n) None

-- a time in seconds has 32 bits
abbrev pub seconds_of : Piece → Option ℕ
seconds_of p = below (2 ^ 32) (number_of p)

abbrev pub kind_from : Option ℕ → Option ℕ
kind_from None = None
kind_from (Some k) = cond (nat_le 1 k && nat_le k 31) (Some k) None

abbrev pub kind_of : Piece → Option ℕ
kind_of p = kind_from (number_of p)

-- ---- names

-- with a last dot it is whole, without one it stands below the apex; a text is no name
abbrev pub name_of : List (List ℕ) → Piece → Result (List (List ℕ)) Fault
name_of apex (Word w) = read_below apex w
name_of apex (Text t) = Err BadName

-- ---- bytes in hexadecimal

abbrev pub digit_of : ℕ → Option ℕ
digit_of b =
    cond (nat_le 48 b && nat_le b 57) (Some (b - 48))
    (cond (nat_le 97 b && nat_le b 102) (Some (b - 87))
    (cond (nat_le 65 b && nat_le b 70) (Some (b - 55)) None))

-- the higher digit stands first
abbrev pub byte_of : Option ℕ → Option ℕ → Option (List ℕ) → Option (List ℕ)
byte_of None l bs = None
byte_of (Some h) None bs = None
byte_of (Some h) (Some l) None = None
byte_of (Some h) (Some l) (Some bs) = Some ((h * 16 + l) ∷ bs)

-- two digits a byte
unfoldable pub bytes_in : List ℕ → Option (List ℕ)
bytes_in [] = Some []
bytes_in (x ∷ []) = None
bytes_in (x ∷ y ∷ ds) = byte_of (digit_of x) (digit_of y) (bytes_in ds)

-- ---- data

abbrev pub address_of : Piece → Option (List ℕ)
address_of (Word w) = cond (length w == 16) (bytes_in w) None
address_of (Text t) = None

abbrev pub text_of : Piece → Option (List ℕ)
text_of (Word w) = None
text_of (Text t) = Some t

-- a text without bytes is a piece without bytes
abbrev pub other_of : Piece → Option (List ℕ)
other_of (Word w) = bytes_in w
other_of (Text []) = Some []
other_of (Text (b ∷ bs)) = None

abbrev pub cons_if : Option (List ℕ) → Option (List (List ℕ)) → Option (List (List ℕ))
cons_if None o = None
cons_if (Some x) None = None
cons_if (Some x) (Some xs) = Some (x ∷ xs)

-- of all pieces, if each stands for something
unfoldable pub all_of : (Piece → Option (List ℕ)) → List Piece → Option (List (List ℕ))
all_of f [] = Some []
all_of f (p ∷ ps) = cons_if (f p) (all_of f ps)

abbrev pub bad_name : List (List ℕ) → Piece → Bool
bad_name apex (Text t) = false
bad_name apex (Word w) = is_bad (read_below apex w)
  where
    is_bad : Result (List (List ℕ)) Fault → Bool
    is_bad (Ok n) = false
    is_bad (Err f) = true

abbrev pub some_bad_name : List (List ℕ) → List Piece → Bool
some_bad_name apex [] = false
some_bad_name apex (p ∷ ps) = bad_name apex p || some_bad_name apex ps

abbrev pub alias_to : Result (List (List ℕ)) Fault → Result Content Fault
alias_to (Ok n) = Ok (AliasOf n)
alias_to (Err f) = Err f

-- one name; a word that is no name is told before a wrong count
abbrev pub alias_of : List (List ℕ) → List Piece → Result Content Fault
alias_of apex [] = Err BadData
alias_of apex (Word w ∷ []) = alias_to (read_below apex w)
alias_of apex (Text t ∷ []) = Err BadData
alias_of apex (p ∷ q ∷ ps) = cond (some_bad_name apex (p ∷ q ∷ ps)) (Err BadName) (Err BadData)

abbrev pub data_from : (List (List ℕ) → Content) → Option (List (List ℕ)) → Result Content Fault
data_from f None = Err BadData
data_from f (Some xs) = Ok (f xs)

-- data in the form of their kind
abbrev pub data_of : ℕ → List (List ℕ) → List Piece → Result Content Fault
data_of k apex ps =
    cond (k == 1) (data_from Addresses (all_of address_of ps))
    (cond (k == 2) (data_from Texts (all_of text_of ps))
    (cond (delegates k) (data_from (λ xs. Delegated (record { servers = xs })) (all_of address_of ps))
    (cond (aliases k) (alias_of apex ps) (data_from Others (all_of other_of ps)))))

-- ---- a set

abbrev pub fitting : List (List ℕ) → ℕ → ℕ → Result Content Fault → Result Set Fault
fitting n k t (Err f) = Err f
fitting n k t (Ok c) = cond (fits k c) (Ok (record { name = n; kind = k; ttl = t; content = c })) (Err BadData)

-- a wrong time is told before a bad name or kind, and these before wrong data
abbrev pub set_from : List (List ℕ) → Option ℕ → Result (List (List ℕ)) Fault → Option ℕ → List Piece → Result Set Fault
set_from apex None n k ps = Err Malformed
set_from apex (Some t) (Err f) k ps = Err f
set_from apex (Some t) (Ok n) None ps = Err BadName
set_from apex (Some t) (Ok n) (Some k) ps = fitting n k t (data_of k apex ps)

abbrev pub set_of : List (List ℕ) → Piece → Piece → Piece → List Piece → Result Set Fault
set_of apex n k t ps = set_from apex (seconds_of t) (name_of apex n) (kind_of k) ps
