use Rattle.std.proofs.Common.{vec_items}
use Rattle.wire.specs.Given.{written}
use Rattle.wire.proofs.Putting.{Behind}
use Rattle.wire.proofs.buffer.Buffer.pieces.Given as goal

abbrev pub invariant-loop-piece : goal.invariant-loop-piece
invariant-loop-piece l = Behind vec_items l.pieces (written l.fn.self) (written l.self) l.piece-index
