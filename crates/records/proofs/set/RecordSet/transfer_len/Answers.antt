use Rattle.std.proofs.Common.{arith}
use Rattle.meaning.proofs.Carried.{length_transferred}
use Rattle.records.specs.Sets.{set_of}
use Rattle.records.proofs.set.RecordSet.transfer_len.Goals as goal

pub returns : goal.returns
returns c =
    let h = length_transferred (set_of c.args.self.now) in
    let w = c.wire_len.ensures in
    let p = c.pieces_len.ensures in
    record { value = omega arith; bound = omega arith }
