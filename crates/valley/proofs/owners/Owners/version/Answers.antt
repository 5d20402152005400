use Rattle.std.proofs.Common.{map, None, Some, vec_items, ap, ◌∙◌, rules, tests}
use Rattle.std.proofs.lemmas.Iterator.{YieldsList-from_slice}
use Rattle.std.proofs.lemmas.Iterator.Search.{find_from_yields_List}
use Rattle.std.specs.Option.{option_map}
use Rattle.names.specs.Names.{labels}
use Rattle.zones.specs.Zones.{zone_of}
use Rattle.protocol.specs.Lists.{first}
use Rattle.valley.specs.Owning.{version_of, is_version, zone_in}
use Rattle.valley.proofs.Owned.{first_of, came}
use Rattle.valley.proofs.owners.Owners.version.Goals as goal

pub returns-in_err-version : goal.returns-in_err-version
returns-in_err-version c =
    let a = labels c.args.apex.now in
    let n = c.args.serial.number in
    let vs = vec_items c.args.self.now.versions in
    let found = ap (option_map version_of) (find_from_yields_List (λ x. is_version a n (version_of x)) _ _ _ c.find.ensures.ran (YieldsList-from_slice vs cc) (λ x b q k. search (rules, tests))) ∙ first_of version_of (is_version a n) vs in
    ap (option_map (λ z. zone_of z.now)) c.from_residual.ensures
    ∙ came (λ x. x.now) version_of zone_in c.find.result None (first (is_version a n) (map version_of vs)) c.in_err-version.was found

pub returns : goal.returns
returns c =
    let a = labels c.args.apex.now in
    let n = c.args.serial.number in
    let vs = vec_items c.args.self.now.versions in
    let found = ap (option_map version_of) (find_from_yields_List (λ x. is_version a n (version_of x)) _ _ _ c.find.ensures.ran (YieldsList-from_slice vs cc) (λ x b q k. search (rules, tests))) ∙ first_of version_of (is_version a n) vs in
    came (λ x. x.now) version_of zone_in c.find.result (Some c.in_ok-version.version) (first (is_version a n) (map version_of vs)) c.in_ok-version.was found
