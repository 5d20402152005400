use Rattle.std.proofs.Common.{map, vec_items}
use Rattle.records.specs.Contents.{bytes_of}
use Rattle.zonetext.specs.Fields.{address_of}
use Rattle.zonetext.proofs.Taking.{Taking}
use Rattle.zonetext.proofs.fields.addresses.Given as goal

abbrev pub invariant-loop-piece : goal.invariant-loop-piece
invariant-loop-piece l = Taking address_of l.pieces (map bytes_of (vec_items l.addresses)) l.piece-index
