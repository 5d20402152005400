use Rattle.names.specs.Names.{labels}
use Rattle.meaning.specs.Speech.{said_by}
use Rattle.zones.specs.Zones.{speaker_of}
use Rattle.wire.specs.Packets.{response_bytes}
use Rattle.wire.specs.Replies.{response_for}
use Rattle.wire.proofs.Front.{response_put, response_short, sent}
use Rattle.wire.proofs.Putting.{all_new}
use Rattle.wire.proofs.reply.write_reply.Goals as goal

pub returns : goal.returns
returns c =
    let r = response_for c.args.id.0 (labels c.args.apex.now) c.args.ttl.0 (said_by (speaker_of c.args.reply.now)) in
    let put = response_put _ _ _ r _ c.front.ensures.put c.what.ensures c.put_told.ensures.put in
    sent _ (response_bytes r) _ _ (response_short r _ c.front.ensures.short c.what.ensures c.put_told.ensures.short)
    (c.append_to.ensures _ (all_new _ _ _ c.new-buffer.ensures put))
