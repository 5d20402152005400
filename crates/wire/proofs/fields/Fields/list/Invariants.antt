use Rattle.std.proofs.Common.{◌-◌}
use Rattle.wire.proofs.Cutting.{Walking}
use Rattle.wire.proofs.fields.Fields.list.Given as goal

abbrev pub invariant-loop : goal.invariant-loop
invariant-loop l = Walking l.initial.end l.initial.rest (l.end - l.counter) l.rest
