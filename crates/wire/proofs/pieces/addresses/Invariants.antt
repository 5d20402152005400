use Rattle.std.proofs.Common.{◌≡◌, true, List, ℕ, map, length, vec_items}
use Rattle.names.specs.Wire.{wire}
use Rattle.records.specs.Contents.{bytes_of}
use Rattle.wire.specs.Parts.{are_addresses}
use Rattle.wire.proofs.Copying.{Copying}
use Rattle.wire.proofs.pieces.addresses.Given as goal

abbrev pub invariant-loop-piece : goal.invariant-loop-piece
invariant-loop-piece l = record {
  copied : (ps : List (List ℕ)) → l.fn.list ≡ wire ps → Copying ps (map bytes_of (vec_items l.addresses)) l.rest;
  good : are_addresses (map bytes_of (vec_items l.addresses)) ≡ true;
}

abbrev pub decreases-loop-piece : goal.decreases-loop-piece
decreases-loop-piece l = length l.rest
