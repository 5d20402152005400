use Rattle.std.proofs.Common.{◌≡◌, ◌++◌, map}
use Rattle.names.specs.Names.{labels}
use Rattle.names.proofs.name.Name.extended.Given as goal

-- the labels read so far
abbrev pub invariant-loop-label : goal.invariant-loop-label
invariant-loop-label l = labels l.name ≡ labels l.fn.self ++ map (λ x. x.now) l.yielded
