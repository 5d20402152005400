-- What the code's pieces stand for, and what it is to read something that is due.
use Rattle.std.specs.Prelude.{◌≡◌, ◌⊎◌, Ok, Err, Result}
use Rattle.names.specs.declared.fault.Fault.{Fault}
use Rattle.names.specs.declared.fault.Fault.TheVariants.{NoMemory}
use Rattle.zonetext.specs.declared.division.Piece as declared
use Rattle.zonetext.specs.declared.division.Piece.TheVariants as rust
use Rattle.zonetext.specs.Division.{Piece, Word, Text}

abbrev pub piece_of : declared.Piece → Piece
piece_of (rust.Word w) = Word w.now
piece_of (rust.Text t) = Text t.now

-- what is due, or that memory ended
abbrev pub Reads : {A X : Type 0} → (X → A) → Result A Fault → Result X Fault → Type 0
Reads of due (Ok x) = due ≡ Ok (of x)
Reads of due (Err f) = (due ≡ Err f) ⊎ (f ≡ NoMemory)
