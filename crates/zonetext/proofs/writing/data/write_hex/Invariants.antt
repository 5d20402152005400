use Rattle.std.proofs.Common.{vec_items}
use Rattle.zonetext.specs.Written.{hexadecimal}
use Rattle.zonetext.proofs.Appending.{Upto}
use Rattle.zonetext.proofs.writing.data.write_hex.Given as goal

abbrev pub invariant-loop-byte : goal.invariant-loop-byte
invariant-loop-byte l = Upto hexadecimal l.bytes (vec_items l.initial.out) (vec_items l.out) l.byte-index
