use Rattle.names.specs.Names.{labels}
use Rattle.records.specs.Sets.{set_of}
use Rattle.zones.specs.Zones.{zone_of, speaker_of}
use Rattle.zones.proofs.Spoken.{referred, unreferred}
use Rattle.zones.proofs.zone.Zone.reply.Goals as goal

pub returns-in-Some : goal.returns-in-Some
returns-in-Some c =
    let z = zone_of c.args.self.now in
    referred z (labels c.args.name.now) c.args.kind.number (set_of c.in-Some.set.now) c.in-Some.ensures

pub returns-in-None : goal.returns-in-None
returns-in-None c =
    let z = zone_of c.args.self.now in
    unreferred z (labels c.args.name.now) c.args.kind.number (speaker_of c.reply_among.result) c.in-None.ensures c.reply_among.ensures
