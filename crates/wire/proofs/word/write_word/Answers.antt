use Rattle.std.proofs.Common.{◌≡◌, true, rules}
use Rattle.names.specs.Names.{labels}
use Rattle.cache.specs.Entries.{said_of}
use Rattle.wire.specs.Packets.{response_bytes}
use Rattle.wire.specs.Replies.{response_for, said_fits}
use Rattle.wire.proofs.Front.{response_put, response_short, sent}
use Rattle.wire.proofs.Putting.{all_new}
use Rattle.wire.proofs.word.write_word.Goals as goal

pub returns : goal.returns
returns c =
    let said = said_of c.args.word.now.said in
    let r = response_for c.args.id.0 (labels c.args.apex.now) c.args.word.now.ttl.0 said in
    let put = response_put _ _ _ r _ c.front.ensures.put c.what.ensures c.put_told.ensures.put in
    let done = sent _ (response_bytes r) _ _ (response_short r _ c.front.ensures.short c.what.ensures c.put_told.ensures.short) (c.append_to.ensures _ (all_new _ _ _ c.new-buffer.ensures put)) in
    let fit : said_fits c.args.kind.number said ≡ true = search rules in
    rw fit done
