use Rattle.std.proofs.Common.{map, vec_items}
use Rattle.records.specs.Contents.{bytes_of}
use Rattle.zonetext.specs.TextLaws.{is_address}
use Rattle.zonetext.specs.Written.{address_piece, pieces_text}
use Rattle.zonetext.proofs.Appending.{Upto, Held}
use Rattle.zonetext.proofs.writing.data.write_addresses.Given as goal

abbrev pub invariant-loop-address : goal.invariant-loop-address
invariant-loop-address l = record {
  done : Upto (λ xs. pieces_text (map address_piece (map bytes_of xs))) l.addresses (vec_items l.initial.out) (vec_items l.out) l.address-index;
  good : Held is_address bytes_of l.addresses l.address-index;
}
