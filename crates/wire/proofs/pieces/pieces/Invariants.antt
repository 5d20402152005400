use Rattle.std.proofs.Common.{◌≡◌, List, ℕ, map, length, vec_items}
use Rattle.names.specs.Wire.{wire}
use Rattle.wire.proofs.Copying.{Copying}
use Rattle.wire.proofs.pieces.pieces.Given as goal

abbrev pub invariant-loop-piece : goal.invariant-loop-piece
invariant-loop-piece l = (ps : List (List ℕ)) → l.fn.list ≡ wire ps → Copying ps (map vec_items (vec_items l.pieces)) l.rest

abbrev pub decreases-loop-piece : goal.decreases-loop-piece
decreases-loop-piece l = length l.rest
