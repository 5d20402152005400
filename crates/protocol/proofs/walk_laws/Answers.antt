use Rattle.protocol.proofs.Walks.{walk_laws}
use Rattle.protocol.proofs.walk_laws.Goals as goal

pub returns : goal.returns
returns c = walk_laws
