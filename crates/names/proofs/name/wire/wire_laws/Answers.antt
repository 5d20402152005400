use Rattle.names.proofs.Cutting.{wire_laws}
use Rattle.names.proofs.name.wire.wire_laws.Goals as goal

pub returns : goal.returns
returns c = wire_laws
