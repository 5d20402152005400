use Rattle.std.proofs.Common.{◌≡◌, true, false, rules}
use Rattle.names.specs.Names.{labels}
use Rattle.names.specs.Order.{within}
use Rattle.zones.specs.Zones.{zone_of}
use Rattle.zones.proofs.Spoken.{said_inside, said_outside}
use Rattle.zones.proofs.zone.Zone.lookup.Goals as goal

pub returns-then-not-is_within : goal.returns-then-not-is_within
returns-then-not-is_within c =
    let w : within (labels c.args.self.now.sets.apex) (labels c.args.name.now) ≡ false = search rules in
    said_outside (zone_of c.args.self.now) (labels c.args.name.now) c.args.kind.number w

pub returns : goal.returns
returns c =
    let w : within (labels c.args.self.now.sets.apex) (labels c.args.name.now) ≡ true = search rules in
    said_inside (zone_of c.args.self.now) (labels c.args.name.now) c.args.kind.number _ w c.reply.ensures
