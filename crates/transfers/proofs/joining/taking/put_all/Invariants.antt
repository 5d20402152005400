use Rattle.std.proofs.Common.{◌≡◌, ◌≤◌, map, length, vec_items}
use Rattle.std.specs.Vec.Iter.{into_iter_items, into_iter_len}
use Rattle.records.specs.Sets.{set_of}
use Rattle.zones.specs.Zones.{zone_of, free}
use Rattle.transfers.proofs.Putting.{Putting}
use Rattle.transfers.proofs.joining.taking.put_all.Given as goal

abbrev pub invariant-loop-set : goal.invariant-loop-set
invariant-loop-set l = record {
  putting : Putting (zone_of l.fn.zone) (zone_of l.zone) (map set_of (vec_items l.fn.sets)) (map set_of (into_iter_items l.set-iterator));
  room : into_iter_len l.set-iterator ≤ free l.zone;
  counted : into_iter_len l.set-iterator ≡ length (into_iter_items l.set-iterator);
}
