use Rattle.std.proofs.Common.{get_or, arith}
use Rattle.std.proofs.lemmas.List.{get_or_default}
use Rattle.records.specs.Contents.{bytes_of}
use Rattle.records.proofs.Weighed.{one_weighed, all_weighed}
use Rattle.records.proofs.data.limits.addresses_len.Goals as goal

pub loop-address-preserved : goal.loop-address-preserved
loop-address-preserved c =
    let i = c.loop-address.invariant.1 in
    let b = c.address_len.ensures.bound in (
      one_weighed bytes_of c.args.addresses.now c.loop-address.len c.loop-address.address-index c.address_len.result (get_or c.args.addresses.now c.loop-address.address-index _) c.loop-address.invariant.0 c.loop-address-test.true (get_or_default c.args.addresses.now c.loop-address.address-index _ _ c.loop-address-test.true) c.address_len.ensures.value,
      omega arith,
    )

pub returns : goal.returns
returns c =
    let i = c.loop-address.invariant.1 in
    let p = c.requires in
    record { value = all_weighed bytes_of c.args.addresses.now c.loop-address.len c.loop-address.address-index c.loop-address.invariant.0 c.loop-address-test.false; bound = omega arith }
