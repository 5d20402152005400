use Rattle.script.proofs.Normal.{script_laws}
use Rattle.script.proofs.script_laws.Goals as goal

pub returns : goal.returns
returns c = script_laws
