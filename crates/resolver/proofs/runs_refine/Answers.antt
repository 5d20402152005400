use Rattle.machine.proofs.Main.{machine_refines}
use Rattle.resolver.specs.Resolvers.{rules_for, state_of}
use Rattle.resolver.proofs.runs_refine.Goals as goal

pub returns : goal.returns
returns c = λ x es j. machine_refines (rules_for x) (state_of x) es j
