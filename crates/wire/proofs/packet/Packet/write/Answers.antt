use Rattle.wire.proofs.Putting.{all_new}
use Rattle.wire.proofs.packet.Packet.write.Goals as goal

pub returns-clause-written : goal.returns-clause-written
returns-clause-written c = c.append_to.ensures _ (all_new _ _ _ c.new-buffer.ensures c.put.ensures.put)
