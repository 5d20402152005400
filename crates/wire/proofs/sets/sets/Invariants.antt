use Rattle.std.proofs.Common.{length}
use Rattle.wire.specs.Sets.{sets_given}
use Rattle.wire.proofs.Naming.{Setting}
use Rattle.wire.proofs.sets.sets.Given as goal

abbrev pub invariant-loop-heap : goal.invariant-loop-heap
invariant-loop-heap l = Setting l.initial.fields.rest.now (sets_given l.sets) l.fields.rest.now

abbrev pub decreases-loop-heap : goal.decreases-loop-heap
decreases-loop-heap l = length l.fields.rest.now
