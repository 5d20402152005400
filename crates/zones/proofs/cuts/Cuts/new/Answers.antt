use Rattle.std.proofs.Common.{map, ap}
use Rattle.names.specs.Names.{labels}
use Rattle.zones.specs.Sorted.{each}
use Rattle.zones.specs.Cuts.{apart, all_below}
use Rattle.zones.proofs.cuts.Cuts.new.Goals as goal

pub invariant_of-result : goal.invariant_of-result
unfolding apart each
invariant_of-result c = record {
  ordered = ap (λ xs. apart (map labels xs)) c.new.ensures.items;
  inside = ap (λ xs. all_below (labels c.args.apex) (map labels xs)) c.new.ensures.items;
}
