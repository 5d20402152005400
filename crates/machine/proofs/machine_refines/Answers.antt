use Rattle.machine.proofs.Main.{machine_refines}
use Rattle.machine.proofs.machine_refines.Goals as goal

pub returns : goal.returns
returns c = machine_refines
