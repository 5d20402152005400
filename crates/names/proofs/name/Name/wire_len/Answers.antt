use Rattle.std.proofs.Common.{arith}
use Rattle.names.specs.Names.{labels}
use Rattle.names.proofs.Laws.{count_is, labels_proper, weight_is}
use Rattle.names.proofs.Proper.{limits, length_wire}
use Rattle.names.proofs.name.Name.wire_len.Goals as goal

pub returns : goal.returns
returns c =
    let n = c.args.self.now in
    let h = count_is n in
    let w = weight_is n in
    let l = length_wire (labels n) in
    let s = c.start.ensures.value in
    let b = (limits (labels n) (labels_proper n)).short in
    record { value = omega arith; bound = omega arith }
