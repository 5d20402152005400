use Rattle.std.proofs.Common.{◌*◌, ◌≤◌}
use Rattle.records.specs.Contents.{bytes_of}
use Rattle.records.proofs.Weighed.{Weighed}
use Rattle.records.proofs.data.limits.addresses_len.Given as goal

abbrev pub invariant-loop-address : goal.invariant-loop-address
invariant-loop-address l = Weighed bytes_of l.addresses l.len l.address-index × (l.len ≤ 9 * l.address-index)
