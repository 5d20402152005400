use Rattle.std.proofs.Common.{map, length, sym, ap, ◌∙◌}
use Rattle.names.specs.Names.{labels}
use Rattle.records.specs.Sets.{set_of}
use Rattle.zones.specs.Sorted.{sorted, each, all_within, fronts_of}
use Rattle.zones.proofs.sets.SortedSets.new.Goals as goal

pub invariant_of-result : goal.invariant_of-result
unfolding sorted each
invariant_of-result c = record {
  ordered = ap (λ xs. sorted (map set_of xs)) c.new.ensures.items;
  inside = ap (λ xs. all_within (labels c.args.apex) (map set_of xs)) c.new.ensures.items;
  marked = c.new-2.ensures.items ∙ sym (ap (λ xs. fronts_of (length (labels c.args.apex)) (map set_of xs)) c.new.ensures.items);
}
