use Rattle.std.proofs.Common.{◌≡◌, map, vec_items}
use Rattle.records.specs.Sets.{set_of}
use Rattle.zones.specs.Zones.{zone_of}
use Rattle.zonetext.specs.TextLaws.{good_set}
use Rattle.zonetext.specs.Written.{sets_text, holds_set}
use Rattle.zonetext.proofs.Appending.{Upto, Held}
use Rattle.zonetext.proofs.writing.write.Given as goal

abbrev pub invariant-loop-set : goal.invariant-loop-set
invariant-loop-set l = record {
  all : map set_of l.set-items ≡ (zone_of l.zone).sets;
  done : Upto (λ xs. sets_text (zone_of l.zone).apex (map set_of xs)) l.set-items (vec_items l.initial.out) (vec_items l.out) l.set-index;
  good : Held good_set set_of l.set-items l.set-index;
  held : Held (holds_set (zone_of l.zone).apex) set_of l.set-items l.set-index;
}
