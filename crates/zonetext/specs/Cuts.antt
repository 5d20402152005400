-- What it is to cut a piece off a line.
use Rattle.std.specs.Prelude.{◌≡◌, ℕ, List, Some, None, Ok, Err, Option, Result}
use Rattle.std.specs.Borrow.{Bor}
use Rattle.names.specs.declared.fault.Fault.{Fault}
use Rattle.names.specs.declared.fault.Fault.TheVariants.{Malformed}
use Rattle.zonetext.specs.declared.division.Piece as declared
use Rattle.zonetext.specs.Division.{First, Nothing, Faulty, Has}
use Rattle.zonetext.specs.Readings.{piece_of}

-- the piece that is due, and what is left behind it
abbrev pub Cuts : First → Result (Option (declared.Piece × Bor (List ℕ))) Fault → Type 0
Cuts due (Ok None) = due ≡ Nothing
Cuts due (Ok (Some p)) = due ≡ Has (piece_of p.0) p.1.now
Cuts due (Err f) = (due ≡ Faulty) × (f ≡ Malformed)
