use Rattle.std.proofs.Common.{◌≡◌, ℕ, ◌+◌}
use Rattle.names.specs.Names.{labels}
use Rattle.valley.specs.Owning.{published_by}
use Rattle.valley.proofs.Meant.{OnWay}
use Rattle.valley.proofs.walk.meant.Given as goal

abbrev pub invariant-loop-step : goal.invariant-loop-step
invariant-loop-step l = (m : ℕ) → l._step + m ≡ 24 → OnWay (published_by l.owners) l.fn.kind.number (labels l.asked) m (labels l.place.apex) (labels l.place.name)
