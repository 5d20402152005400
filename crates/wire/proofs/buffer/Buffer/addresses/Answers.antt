use Rattle.std.proofs.Common.{get_or, length, refl, rules}
use Rattle.std.proofs.lemmas.List.{get_or_default}
use Rattle.records.specs.Contents.{bytes_of}
use Rattle.wire.proofs.Copying.{one_sound, all_sound}
use Rattle.wire.proofs.Putting.{none_behind, one_behind, all_behind}
use Rattle.wire.proofs.buffer.Buffer.addresses.Goals as goal

pub loop-address-init : goal.loop-address-init
loop-address-init c = record { put = none_behind bytes_of c.args.addresses.now _ _ (length c.args.addresses.now) (search rules) c.byte.ensures; kept = refl }

pub loop-address-preserved : goal.loop-address-preserved
loop-address-preserved c =
    let i = c.loop-address.address-index in
    let x = get_or c.args.addresses.now i _ in
    let is = get_or_default c.args.addresses.now i _ _ c.loop-address-test.true in
    record {
      put = one_behind bytes_of c.args.addresses.now _ _ _ i x c.loop-address.invariant.put c.loop-address-test.true is c.address.ensures.put;
      kept = one_sound bytes_of c.args.addresses.now i x c.loop-address.invariant.kept c.loop-address-test.true is c.address.ensures.kept;
    }

pub returns : goal.returns
returns c =
    let i = c.loop-address.address-index in
    record {
      put = all_behind bytes_of c.args.addresses.now _ _ i c.loop-address.invariant.put c.loop-address-test.false;
      kept = all_sound bytes_of c.args.addresses.now i c.loop-address.invariant.kept c.loop-address-test.false;
    }
