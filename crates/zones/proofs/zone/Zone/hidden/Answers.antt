use Rattle.std.proofs.Common.{◌≡◌, map, filter, vec_items, ap, ◌∙◌, rules, tests}
use Rattle.std.proofs.lemmas.Iterator.{YieldsList-from_slice}
use Rattle.std.proofs.lemmas.Iterator.Consumers.{map_from_collect, YieldsList-from_filter, YieldsList-at}
use Rattle.std.proofs.lemmas.Result.{IfOk-at_ok}
use Rattle.records.specs.Sets.{set_of}
use Rattle.meaning.specs.Laws.{is_hidden, keep}
use Rattle.zones.specs.Zones.{zone_of}
use Rattle.zones.proofs.Picked.{picked}
use Rattle.zones.proofs.zone.Zone.hidden.Goals as goal

pub returns : goal.returns
returns c =
    let z = zone_of c.args.self.now in
    let xs = c.as_slice.result.now in
    let got : map (λ s. s.now) (vec_items c.in_ok-collect.field-0) ≡ filter (λ s. is_hidden z (set_of s)) xs =
    IfOk-at_ok _ c.in_ok-collect.was (map_from_collect _ c.collect.ensures.ran (YieldsList-from_filter _ (λ s. is_hidden z (set_of s)) (YieldsList-at c.filter.ensures.source (YieldsList-from_slice xs cc)) c.filter.ensures.closure (λ x b q k. search (rules, tests)))) in
    picked (is_hidden z) set_of (λ s. s.now) (vec_items c.in_ok-collect.field-0) xs got ∙ ap (keep (is_hidden z)) c.as_slice.ensures
