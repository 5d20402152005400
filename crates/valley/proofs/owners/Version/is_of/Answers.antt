use Rattle.std.proofs.Common.{nat_eq, ap, ◌∙◌}
use Rattle.std.specs.Cmp.Lexicographic.{pointwise}
use Rattle.names.specs.Names.{labels}
use Rattle.meaning.proofs.Rules.{told_same}
use Rattle.valley.proofs.owners.Version.is_of.Goals as goal

pub returns : goal.returns
returns c =
    let a = labels c.args.apex.now in
    c.eq.ensures ∙ ap (λ x. pointwise (pointwise nat_eq) x a) c.apex.ensures ∙ told_same (labels c.args.self.now.zone.sets.apex) a
