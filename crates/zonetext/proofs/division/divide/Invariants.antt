use Rattle.std.proofs.Common.{map, length, vec_items}
use Rattle.zonetext.specs.Division.{read_part}
use Rattle.zonetext.specs.Readings.{piece_of}
use Rattle.zonetext.proofs.Dividing.{Dividing}
use Rattle.zonetext.proofs.division.divide.Given as goal

abbrev pub invariant-loop-piece : goal.invariant-loop-piece
invariant-loop-piece l = Dividing (read_part l.fn.line) (map piece_of (vec_items l.pieces)) l.rest

abbrev pub decreases-loop-piece : goal.decreases-loop-piece
decreases-loop-piece l = length l.rest
