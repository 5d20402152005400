use Rattle.std.proofs.Common.{vec_items}
use Rattle.records.proofs.Weighed.{Weighed}
use Rattle.records.proofs.data.limits.pieces_len.Given as goal

abbrev pub invariant-loop-piece : goal.invariant-loop-piece
invariant-loop-piece l = Weighed vec_items l.pieces l.len l.piece-index
