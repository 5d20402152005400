use Rattle.std.proofs.Common.{rules}
use Rattle.names.specs.Names.{labels}
use Rattle.names.proofs.Fronts.{front_found}
use Rattle.names.proofs.name.Name.front_below.Goals as goal

pub returns : goal.returns
returns c = front_found (λ x. x.now) (labels c.args.self.now) c.args.depth c.label.result c.map_or.result _ c.label.ensures c.map_or.ensures (λ x k. search rules)
