use Rattle.std.proofs.Common.{◌≡◌, map, length}
use Rattle.records.specs.Sets.{set_of}
use Rattle.zones.specs.Valid.{no_clash}
use Rattle.transfers.proofs.joining.checking.any_clash.Given as goal

abbrev pub invariant-loop-rest : goal.invariant-loop-rest
invariant-loop-rest l = no_clash (map set_of l.rest) ≡ no_clash (map set_of l.sets)

abbrev pub decreases-loop-rest : goal.decreases-loop-rest
decreases-loop-rest l = length l.rest
