use Rattle.std.proofs.Common.{sym, ap, ◌∙◌}
use Rattle.std.proofs.lemmas.Bool.{not-true, not-false}
use Rattle.names.specs.Names.{labels}
use Rattle.meaning.proofs.Rules.{told_same}
use Rattle.zones.specs.Zones.{zone_of}
use Rattle.zonetext.specs.Texts.{renews}
use Rattle.zonetext.specs.Heads.{old_zone}
use Rattle.zonetext.proofs.Serials.{other_apex, same_apex}
use Rattle.zonetext.proofs.heads.renews.Goals as goal

pub returns-then-ne : goal.returns-then-ne
returns-then-ne c =
    let apex = labels c.args.apex.now in
    c.if-ne.true
    ∙ sym (ap (λ o. renews (old_zone o) apex c.args.serial.number) c.in-Some.is
    ∙ other_apex (zone_of c.in-Some.zone.now) (labels c.apex.result.now) apex c.args.serial.number c.apex.ensures (sym (told_same (labels c.apex.result.now) apex) ∙ not-true _ (sym c.if-ne.ensures)))

pub returns-else-ne : goal.returns-else-ne
returns-else-ne c =
    let apex = labels c.args.apex.now in
    c.is_newer_than.ensures
    ∙ sym (ap (λ o. renews (old_zone o) apex c.args.serial.number) c.in-Some.is
    ∙ same_apex (zone_of c.in-Some.zone.now) (labels c.apex.result.now) apex c.args.serial.number c.apex.ensures c.serial.result.number c.serial.ensures (sym (told_same (labels c.apex.result.now) apex) ∙ not-false _ (sym c.if-ne.ensures)))
