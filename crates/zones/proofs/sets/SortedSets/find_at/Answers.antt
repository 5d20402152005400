use Rattle.std.proofs.Common.{◌<◌, ◌≤◌, length, get_or, vec_items, ap, ◌∙◌, subst}
use Rattle.names.specs.Names.{labels}
use Rattle.records.specs.Sets.{set_of}
use Rattle.zones.proofs.ByPlace.{exact_by, exact_past, shown}
use Rattle.zones.proofs.sets.SortedSets.find_at.Goals as goal

pub returns-in_err-set : goal.returns-in_err-set
returns-in_err-set c =
    let s = c.args.self.now in
    let l = subst (λ xs. length xs ≤ c.args.at) c.deref.ensures.value c.in_err-set.ensures.lookup.3 in
    rw c.from_residual.ensures (exact_past set_of (vec_items s.sets) (labels c.args.name.now) c.args.kind.number s.ordered c.args.at c.requires l)

pub returns : goal.returns
returns c =
    let s = c.args.self.now in
    let at = c.args.at in
    let set = c.in_ok-set.set.now in
    let l = subst (λ xs. at < length xs) c.deref.ensures.value c.in_ok-set.ensures.lookup.3.0 in
    let e = c.in_ok-set.ensures.lookup.1 ∙ ap (λ xs. get_or xs at set) c.deref.ensures.value in
    rw c.then_some.ensures (shown (λ r. set_of r.now) c.is_exactly.result c.in_ok-set.set
    ∙ exact_by set_of (vec_items s.sets) (labels c.args.name.now) c.args.kind.number s.ordered at set c.is_exactly.result c.requires l e c.is_exactly.ensures)
