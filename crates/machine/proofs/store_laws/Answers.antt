use Rattle.machine.proofs.Storing.{store_laws}
use Rattle.machine.proofs.store_laws.Goals as goal

pub returns : goal.returns
returns c = store_laws
