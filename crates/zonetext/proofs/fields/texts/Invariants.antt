use Rattle.std.proofs.Common.{map, vec_items}
use Rattle.zonetext.specs.Fields.{text_of}
use Rattle.zonetext.proofs.Taking.{Taking}
use Rattle.zonetext.proofs.fields.texts.Given as goal

abbrev pub invariant-loop-piece : goal.invariant-loop-piece
invariant-loop-piece l = Taking text_of l.pieces (map vec_items (vec_items l.texts)) l.piece-index
