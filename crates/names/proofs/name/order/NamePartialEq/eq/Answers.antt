use Rattle.std.proofs.Common.{◌∙◌, arith}
use Rattle.names.specs.Names.{labels}
use Rattle.names.proofs.Within.{told_same}
use Rattle.names.proofs.name.order.NamePartialEq.eq.Goals as goal

pub returns-then-label_count : goal.returns-then-label_count
returns-then-label_count c = c.is_within.ensures ∙ told_same (labels c.args.self.now) (labels c.args.other.now) (omega arith)
