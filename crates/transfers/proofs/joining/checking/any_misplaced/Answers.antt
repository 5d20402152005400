use Rattle.std.proofs.Common.{◌∙◌, rules, tests}
use Rattle.std.proofs.lemmas.Iterator.{YieldsList-from_slice}
use Rattle.std.proofs.lemmas.Iterator.Search.{any_from_yields_List}
use Rattle.records.specs.Sets.{set_of}
use Rattle.zones.specs.Valid.{added}
use Rattle.zones.specs.Zones.{zone_of}
use Rattle.transfers.specs.Joinings.{is_misplaced}
use Rattle.transfers.proofs.Searched.{any_of}
use Rattle.transfers.proofs.joining.checking.any_misplaced.Goals as goal

pub returns : goal.returns
returns c =
    let xs = c.args.sets.now in
    let z = zone_of c.args.zone.now in
    any_from_yields_List (λ x. is_misplaced (added z.apex z.sets (set_of x))) _ _ c.any.result c.any.ensures.ran (YieldsList-from_slice xs cc) (λ x b q k. search (rules, tests))
    ∙ any_of set_of (λ s. is_misplaced (added z.apex z.sets s)) xs
