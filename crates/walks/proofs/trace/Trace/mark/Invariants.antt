use Rattle.std.proofs.Common.{◌≡◌, drop}
use Rattle.walks.specs.Traces.{marked}
use Rattle.walks.proofs.trace.Trace.mark.Given as goal

abbrev pub invariant-loop-place : goal.invariant-loop-place
invariant-loop-place l = marked (drop l.place-index l.place-items) l.flags ≡ marked l.place-items l.initial.flags
