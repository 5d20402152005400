use Rattle.std.proofs.Common.{nat_eq, ◌∙◌}
use Rattle.std.specs.Cmp.Lexicographic.{pointwise}
use Rattle.names.specs.Names.{labels}
use Rattle.meaning.proofs.Rules.{told_same}
use Rattle.zones.proofs.zone.Zone.is_at_apex.Goals as goal

pub returns : goal.returns
returns c = c.eq.ensures ∙ (λ i. pointwise (pointwise nat_eq) (c.name.ensures i) (c.apex.ensures i)) ∙ told_same (labels c.args.set.now.name) (labels c.args.self.now.sets.apex)
