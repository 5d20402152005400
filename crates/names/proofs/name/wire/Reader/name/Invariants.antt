use Rattle.std.proofs.Common.{◌-◌}
use Rattle.names.specs.Names.{labels, made}
use Rattle.names.proofs.Cutting.{Cutting}
use Rattle.names.proofs.name.wire.Reader.name.Given as goal

abbrev pub invariant-loop : goal.invariant-loop
invariant-loop l = Cutting l.initial.end l.initial.rest (made l.is_bad (labels l.name)) (l.end - l.counter) l.rest
