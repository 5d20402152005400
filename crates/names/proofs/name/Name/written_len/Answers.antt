use Rattle.std.proofs.Common.{arith}
use Rattle.names.specs.Names.{labels}
use Rattle.names.proofs.Laws.{count_is, labels_proper, weight_is}
use Rattle.names.proofs.Proper.{limits, length_written_root, length_written_all}
use Rattle.names.proofs.name.Name.written_len.Goals as goal

pub returns-then-count-eq0 : goal.returns-then-count-eq0
returns-then-count-eq0 c =
    let h = count_is c.args.self.now in
    let l = length_written_root (labels c.args.self.now) (omega arith) in
    record { value = omega arith; bound = omega arith }

pub returns : goal.returns
returns c =
    let n = c.args.self.now in
    let h = count_is n in
    let w = weight_is n in
    let l = length_written_all (labels n) (omega arith) in
    let s = c.start.ensures.value in
    let b = (limits (labels n) (labels_proper n)).short in
    record { value = omega arith; bound = omega arith }
