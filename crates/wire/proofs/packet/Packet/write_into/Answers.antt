use Rattle.wire.proofs.Putting.{all_new}
use Rattle.wire.proofs.packet.Packet.write_into.Goals as goal

pub returns : goal.returns
returns c = c.copy_to.ensures _ (all_new _ _ _ c.new-buffer.ensures c.put.ensures.put)
