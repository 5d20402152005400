use Rattle.std.proofs.Common.{◌≡◌, map, take, vec_items}
use Rattle.records.proofs.data.copying.copied_pieces.Given as goal

abbrev pub invariant-loop-piece : goal.invariant-loop-piece
invariant-loop-piece l = map vec_items (vec_items l.copies) ≡ map vec_items (take l.piece-index l.pieces)
