use Rattle.std.proofs.Common.{map, vec_items}
use Rattle.zonetext.specs.Fields.{other_of}
use Rattle.zonetext.proofs.Taking.{Taking}
use Rattle.zonetext.proofs.fields.others.Given as goal

abbrev pub invariant-loop-piece : goal.invariant-loop-piece
invariant-loop-piece l = Taking other_of l.pieces (map vec_items (vec_items l.others)) l.piece-index
