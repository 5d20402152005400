use Rattle.std.proofs.Common.{vec_items, subst, rules, tests}
use Rattle.std.specs.List.{ItemBy}
use Rattle.names.specs.Names.{labels}
use Rattle.records.specs.Sets.{set_of}
use Rattle.zones.proofs.Beside.{there_by}
use Rattle.zones.proofs.sets.SortedSets.reply_at.Goals as goal

pub returns : goal.returns
returns c =
    let at = c.args.at in
    there_by (λ x. x.now) set_of (vec_items c.args.self.now.sets) (labels c.args.name.now) c.args.kind.number at c.get-set.result c.map_or.result _
    (subst (λ xs. ItemBy (λ x. x.now) xs at at c.get-set.result) c.deref.ensures.value c.get-set.ensures.lookup) c.map_or.ensures (λ x k. search (rules, tests))
