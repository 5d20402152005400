use Rattle.std.proofs.Common.{◌≡◌, length}
use Rattle.zones.specs.Zones.{zone_of}
use Rattle.zonetext.specs.Texts.{with_lines}
use Rattle.zonetext.specs.Numbered.{said_left}
use Rattle.zonetext.proofs.reading.add_sets.Given as goal

-- what is left gives what all lines give
abbrev pub invariant-loop-line : goal.invariant-loop-line
invariant-loop-line l = with_lines (zone_of l.initial.zone) (said_left l.initial.lines) ≡ with_lines (zone_of l.zone) (said_left l.lines)

abbrev pub decreases-loop-line : goal.decreases-loop-line
decreases-loop-line l = length l.lines.rest.now
