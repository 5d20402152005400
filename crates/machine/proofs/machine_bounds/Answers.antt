use Rattle.machine.proofs.Bounds.{machine_bounds}
use Rattle.machine.proofs.machine_bounds.Goals as goal

pub returns : goal.returns
returns c = machine_bounds
