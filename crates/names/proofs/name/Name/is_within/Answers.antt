use Rattle.std.proofs.Common.{sym, ◌∙◌, arith}
use Rattle.names.specs.Names.{labels}
use Rattle.names.proofs.Within.{within_longer, within_step, within_all}
use Rattle.names.proofs.name.Name.is_within.Goals as goal

pub returns-then-label_count : goal.returns-then-label_count
returns-then-label_count c = sym (within_longer (labels c.args.upper.now) (labels c.args.self.now) (omega arith))

pub returns-then-not-same_label : goal.returns-then-not-same_label
returns-then-not-same_label c =
    sym (within_step (labels c.args.upper.now) (labels c.args.self.now) c.loop-depth.depth c.label_at.result.now c.label_at-in-loop-depth.result.now _ (omega arith) (omega arith) c.label_at.ensures c.label_at-in-loop-depth.ensures c.if-not-same_label.ensures) ∙ c.loop-depth.invariant

pub loop-depth-preserved : goal.loop-depth-preserved
loop-depth-preserved c =
    sym (within_step (labels c.args.upper.now) (labels c.args.self.now) c.loop-depth.depth c.label_at.result.now c.label_at-in-loop-depth.result.now _ (omega arith) (omega arith) c.label_at.ensures c.label_at-in-loop-depth.ensures c.if-not-same_label.ensures) ∙ c.loop-depth.invariant

pub returns : goal.returns
returns c = sym (within_all (labels c.args.upper.now) (labels c.args.self.now) c.loop-depth.depth (omega arith)) ∙ c.loop-depth.invariant
