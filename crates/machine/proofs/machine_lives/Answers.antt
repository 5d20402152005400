use Rattle.machine.proofs.Live.{machine_live}
use Rattle.machine.proofs.machine_lives.Goals as goal

pub returns : goal.returns
returns c = machine_live
