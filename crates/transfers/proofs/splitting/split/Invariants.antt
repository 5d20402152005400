use Rattle.std.proofs.Common.{◌≡◌, map, length, vec_items}
use Rattle.std.specs.Prelude.{[]}
use Rattle.records.specs.Sets.{set_of}
use Rattle.zones.specs.Zones.{zone_of}
use Rattle.wire.specs.Heads.{head_of}
use Rattle.transfers.specs.Splitting.{rows, part_from}
use Rattle.transfers.specs.Sent.{part_of}
use Rattle.transfers.proofs.Numbering.{Numbered}
use Rattle.transfers.proofs.splitting.split.Given as goal

abbrev pub invariant-loop-row : goal.invariant-loop-row
invariant-loop-row l = record {
  all : map (λ r. map set_of r.now) l.row-items ≡ rows (zone_of l.zone).sets;
  head : head_of l.head ≡ (part_from (zone_of l.zone) l.fn.id.0 l.fn.moment.0 (length l.row-items) l.row-index []).head;
  done : Numbered (λ r. map set_of r.now) l.row-items (zone_of l.zone) l.fn.id.0 l.fn.moment.0 (length l.row-items) (map part_of (vec_items l.parts)) l.row-index;
}
