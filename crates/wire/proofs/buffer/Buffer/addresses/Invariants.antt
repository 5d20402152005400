use Rattle.records.specs.Contents.{bytes_of}
use Rattle.wire.specs.Given.{written}
use Rattle.wire.proofs.Copying.{Sound}
use Rattle.wire.proofs.Putting.{Behind}
use Rattle.wire.proofs.buffer.Buffer.addresses.Given as goal

abbrev pub invariant-loop-address : goal.invariant-loop-address
invariant-loop-address l = record { put : Behind bytes_of l.addresses (written l.fn.self) (written l.self) l.address-index; kept : Sound bytes_of l.addresses l.address-index }
