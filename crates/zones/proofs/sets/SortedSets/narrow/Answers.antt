use Rattle.std.proofs.Common.{vec_items, sym, ◌∙◌, subst}
use lib.ListN.{length-map}
use Rattle.names.specs.Names.{labels}
use Rattle.records.specs.Sets.{set_of}
use Rattle.zones.specs.Sorted.{Narrowed}
use Rattle.zones.specs.Zones.{sets_of}
use Rattle.zones.proofs.Narrow.{before_all, behind_all}
use Rattle.zones.proofs.sets.SortedSets.narrow.Goals as goal

pub returns-then-lt : goal.returns-then-lt
returns-then-lt c = before_all (labels c.args.self.now.apex) (labels c.args.name.now) (sets_of c.args.self.now) c.args.self.now.inside (sym c.if-lt.ensures)

pub returns-else-lt : goal.returns-else-lt
returns-else-lt c =
    let s = c.args.self.now in
    let l = c.len-at.ensures ∙ s.sets.ok.0 ∙ sym (length-map (vec_items s.sets) set_of) in
    subst (λ m. Narrowed (labels s.apex) (labels c.args.name.now) (sets_of s) m m) (sym l) (behind_all (labels s.apex) (labels c.args.name.now) (sets_of s) s.inside (sym c.if-lt.ensures) (sym c.if-is_within.ensures))
