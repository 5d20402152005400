use Rattle.std.proofs.Common.{◌<◌, arith}
use Rattle.wire.specs.Shapes.{Times, Head}
use Rattle.transfers.proofs.Parting.{within, counted}
use Rattle.transfers.proofs.splitting.head_before.Goals as goal

pub returns-clause-kept : goal.returns-clause-kept
returns-clause-kept c =
    let id : c.args.id.0 < 18446744073709551616 = omega (arith, c.well_formed) in
    let moment : c.args.moment.0 < 18446744073709551616 = omega (arith, c.well_formed) in
    let serial : c.serial.result.number < 18446744073709551616 = omega (arith, c.serial.type_inv) in
    let negative : c.negative.result.0 < 4294967296 = omega (arith, c.negative.type_inv) in
    let refresh : c.refresh.result.0 < 4294967296 = omega (arith, c.refresh.type_inv) in
    let expire : c.expire.result.0 < 4294967296 = omega (arith, c.expire.type_inv) in
    let times : Times = record { negative = c.negative.result.0; refresh = c.refresh.result.0; expire = c.expire.result.0 } in
    let h : Head = record { id = c.args.id.0; serial = c.serial.result.number; moment = c.args.moment.0; times = times; part = 0; of = c.args.of } in
    counted h (within h id serial c.serial.result.set moment negative refresh expire) (omega arith) (omega arith)
