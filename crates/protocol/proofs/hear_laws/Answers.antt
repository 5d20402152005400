use Rattle.protocol.proofs.Hearing.{hear_laws}
use Rattle.protocol.proofs.hear_laws.Goals as goal

pub returns : goal.returns
returns c = hear_laws
