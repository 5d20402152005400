use Rattle.transfers.proofs.Parting.{split_laws}
use Rattle.transfers.proofs.split_laws.Goals as goal

pub returns : goal.returns
returns c = split_laws c.packet_laws.ensures
