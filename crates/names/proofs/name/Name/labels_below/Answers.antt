use Rattle.std.proofs.Common.{arith}
use Rattle.std.proofs.lemmas.Slice.{between_to_end}
use Rattle.names.specs.Iterating.{labels_ahead}
use Rattle.names.specs.Names.{labels}
use Rattle.names.proofs.Laws.{count_is}
use Rattle.names.proofs.name.Name.labels_below.Goals as goal

pub invariant_of-result : goal.invariant_of-result
invariant_of-result c =
    let l = count_is c.args.self.now in
    record { there = omega arith }

pub returns : goal.returns
unfolding labels_ahead
returns c = between_to_end (labels c.args.self.now) c.args.depth c.label_count.result (omega arith)
