use Rattle.std.proofs.Common.{◌≡◌, map, length}
use Rattle.records.specs.Sets.{set_of}
use Rattle.transfers.specs.Joining.{any_twice}
use Rattle.transfers.proofs.joining.checking.any_twice.Given as goal

abbrev pub invariant-loop-rest : goal.invariant-loop-rest
invariant-loop-rest l = any_twice (map set_of l.rest) ≡ any_twice (map set_of l.sets)

abbrev pub decreases-loop-rest : goal.decreases-loop-rest
decreases-loop-rest l = length l.rest
