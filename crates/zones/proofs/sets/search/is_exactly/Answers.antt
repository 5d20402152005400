use Rattle.std.proofs.Common.{nat_eq, ◌&&◌, eqb, sym, ap, ◌∙◌}
use Rattle.std.specs.Cmp.Lexicographic.{pointwise}
use Rattle.names.specs.Names.{labels}
use Rattle.meaning.proofs.Rules.{told_same}
use Rattle.zones.proofs.sets.search.is_exactly.Goals as goal

pub returns-then-eq : goal.returns-then-eq
returns-then-eq c =
    let n = labels c.args.name.now in
    let t = sym c.if-eq.true ∙ c.eq.ensures ∙ ap (λ a. pointwise (pointwise nat_eq) a n) c.name.ensures ∙ told_same (labels c.args.set.now.name) n in
    c.eq-then-eq.ensures ∙ (λ i. t i && eqb (c.kind.ensures i) c.args.kind.number)

pub returns-else-eq : goal.returns-else-eq
returns-else-eq c =
    let n = labels c.args.name.now in
    let t = sym c.if-eq.false ∙ c.eq.ensures ∙ ap (λ a. pointwise (pointwise nat_eq) a n) c.name.ensures ∙ told_same (labels c.args.set.now.name) n in
    c.if-eq.false ∙ ap (λ b. b && eqb c.args.set.now.kind.number c.args.kind.number) t
