use Rattle.std.proofs.Common.{◌+◌, [], None, Some, nat_le, sym, ap, ◌∙◌}
use Rattle.std.proofs.lemmas.Bool.{cond-true, cond-false}
use Rattle.std.specs.Option.{option_map}
use Rattle.zones.specs.Zones.{zone_of}
use Rattle.valley.specs.Having.{good}
use Rattle.valley.proofs.servers.Copied.zone.Goals as goal

pub returns-then-is_unexpired : goal.returns-then-is_unexpired
returns-then-is_unexpired c =
    let now = c.args.now.0 in
    let m = c.args.self.now.moment.0 in
    let z = zone_of c.in_ok-zone.zone.now in
    let found = sym c.version.ensures ∙ ap (option_map (λ r. zone_of r.now)) c.in_ok-zone.was in
    sym (ap (good now m) found ∙ cond-true (nat_le now (m + z.expire)) (Some z) None (sym (c.is_unexpired.ensures []) ∙ c.if-is_unexpired.true))

pub returns-else-is_unexpired : goal.returns-else-is_unexpired
returns-else-is_unexpired c =
    let now = c.args.now.0 in
    let m = c.args.self.now.moment.0 in
    let z = zone_of c.in_ok-zone.zone.now in
    let found = sym c.version.ensures ∙ ap (option_map (λ r. zone_of r.now)) c.in_ok-zone.was in
    sym (ap (good now m) found ∙ cond-false (nat_le now (m + z.expire)) (Some z) None (sym (c.is_unexpired.ensures []) ∙ c.if-is_unexpired.false))
