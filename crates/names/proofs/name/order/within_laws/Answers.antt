use Rattle.names.proofs.Within.{within_laws}
use Rattle.names.proofs.name.order.within_laws.Goals as goal

pub returns : goal.returns
returns c = within_laws
