use Rattle.wire.proofs.Laws.{packet_laws}
use Rattle.wire.proofs.packet.packet_laws.Goals as goal

pub returns : goal.returns
returns c = packet_laws
