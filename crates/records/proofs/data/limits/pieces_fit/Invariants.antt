use Rattle.std.proofs.Common.{vec_items}
use Rattle.records.proofs.Measured.{Measured}
use Rattle.records.proofs.data.limits.pieces_fit.Given as goal

abbrev pub invariant-loop-piece : goal.invariant-loop-piece
invariant-loop-piece l = Measured vec_items l.pieces l.total l.piece-index
