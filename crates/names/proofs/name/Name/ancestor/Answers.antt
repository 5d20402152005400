use Rattle.std.proofs.Common.{arith, rules}
use Rattle.names.specs.Names.{labels}
use Rattle.names.proofs.Laws.{count_is, labels_proper}
use Rattle.names.proofs.Proper.{limits}
use Rattle.names.proofs.Parent.{upper_laid, upper_labels, upper_limited}
use Rattle.names.proofs.name.Name.ancestor.Goals as goal

pub invariant_of-result : goal.invariant_of-result
invariant_of-result c =
    let n = c.args.self.now in
    let k = count_is n in
    record { counted = omega arith; laid = upper_laid n c.args.count (omega arith); limited = upper_limited n c.args.count (omega arith) }

pub returns : goal.returns
unfolding labels
returns c = let k = count_is c.args.self.now in upper_labels c.args.self.now c.args.count (omega arith)

pub overflow_cast-result : goal.overflow_cast-result
overflow_cast-result c =
    let n = c.args.self.now in
    let f = (limits (labels n) (labels_proper n)).few in
    search rules
