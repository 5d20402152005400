use Rattle.std.proofs.Common.{◌≡◌, ℕ, ◌+◌}
use Rattle.names.specs.Names.{labels}
use Rattle.cache.specs.Caches.{entries_of}
use Rattle.walks.specs.Traces.{places_of}
use Rattle.walks.proofs.Going.{OnWay, Placed}
use Rattle.walks.proofs.course.walk.Given as goal

abbrev pub invariant-loop-step : goal.invariant-loop-step
invariant-loop-step l = record {
  kind : l.way.key.kind ≡ l.fn.kind;
  way : (m : ℕ) → l._step + m ≡ 24 → OnWay l.moment.0 (entries_of l.cache) l.fn.kind.number (labels l.name) m l.way.least l.way.referral (labels l.way.key.apex) (labels l.way.key.name);
  placed : (m : ℕ) → l._step + m ≡ 24 → Placed l.moment.0 (entries_of l.cache) l.fn.kind.number (labels l.name) m (places_of l.trace) (labels l.way.key.apex) (labels l.way.key.name);
}
