use Rattle.std.proofs.Common.{◌≡◌, drop}
use Rattle.names.specs.Names.{labels}
use Rattle.names.specs.Order.{within}
use Rattle.names.proofs.name.Name.is_within.Given as goal

abbrev pub invariant-loop-depth : goal.invariant-loop-depth
invariant-loop-depth l = within (drop l.depth (labels l.upper)) (drop l.depth (labels l.self)) ≡ within (labels l.upper) (labels l.self)
