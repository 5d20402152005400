use Rattle.std.proofs.Common.{map, vec_items}
use Rattle.zonetext.specs.TextLaws.{are_bytes}
use Rattle.zonetext.specs.Written.{other_piece, pieces_text}
use Rattle.zonetext.proofs.Appending.{Upto, Held}
use Rattle.zonetext.proofs.writing.data.write_others.Given as goal

abbrev pub invariant-loop-piece : goal.invariant-loop-piece
invariant-loop-piece l = record {
  done : Upto (λ xs. pieces_text (map other_piece (map vec_items xs))) l.pieces (vec_items l.initial.out) (vec_items l.out) l.piece-index;
  good : Held are_bytes vec_items l.pieces l.piece-index;
}
