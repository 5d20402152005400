-- A record set as a transfer carries it, byte by byte. Assumes nothing.
use Rattle.std.specs.Prelude.{ℕ, ◌/◌, ◌%◌, List, [], ◌∷◌, ◌++◌, length}
use Rattle.names.specs.Labels.{written}
use Rattle.names.specs.Wire.{wire_labels, wire}
use Rattle.meaning.specs.Model.{Content, Addresses, Texts, Others, AliasOf, Delegated, Set}

-- an alias's piece is its name as it is written
abbrev pub pieces : Content → List (List ℕ)
pieces (Addresses ps) = ps
pieces (Texts ps) = ps
pieces (Others ps) = ps
pieces (AliasOf n) = written n ∷ []
pieces (Delegated d) = d.servers

-- a number in four bytes, the high one first
abbrev pub four_bytes : ℕ → List ℕ
four_bytes n = (n / 16777216 % 256) ∷ (n / 65536 % 256) ∷ (n / 256 % 256) ∷ (n % 256) ∷ []

-- name, kind, time, how many pieces, and each piece behind its length
unfoldable pub transferred : Set → List ℕ
transferred s = wire s.name ++ (s.kind ∷ (four_bytes s.ttl ++ (length (pieces s.content) ∷ wire_labels (pieces s.content))))

unfoldable pub all_transferred : List Set → List ℕ
all_transferred [] = []
all_transferred (s ∷ ss) = transferred s ++ all_transferred ss
