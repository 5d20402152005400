use Rattle.std.proofs.Common.{vec_items, subst, rules, tests}
use Rattle.std.specs.List.{ItemBy}
use Rattle.records.specs.Sets.{set_of}
use Rattle.zones.proofs.Clashing.{clash_by}
use Rattle.zones.proofs.sets.SortedSets.clashes_at.Goals as goal

pub returns : goal.returns
returns c =
    let at = c.args.at in
    clash_by (λ x. x.now) set_of (vec_items c.args.self.now.sets) (set_of c.args.set.now) at c.get-other.result c.is_some_and.result _
    (subst (λ xs. ItemBy (λ x. x.now) xs at at c.get-other.result) c.deref.ensures.value c.get-other.ensures.lookup) c.is_some_and.ensures (λ x k. search (rules, tests))
