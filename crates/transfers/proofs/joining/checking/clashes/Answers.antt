use Rattle.std.proofs.Common.{map, ◌∙◌, rules, tests}
use Rattle.std.proofs.lemmas.Iterator.{YieldsList-from_slice}
use Rattle.std.proofs.lemmas.Iterator.Search.{any_from_yields_List}
use Rattle.records.specs.Sets.{set_of}
use Rattle.zones.specs.Valid.{clash}
use Rattle.transfers.proofs.Searched.{any_of, any_clashes}
use Rattle.transfers.proofs.joining.checking.clashes.Goals as goal

pub returns : goal.returns
returns c =
    let xs = c.args.others.now in
    let s = set_of c.args.set.now in
    any_from_yields_List (λ x. clash s (set_of x)) _ _ c.any.result c.any.ensures.ran (YieldsList-from_slice xs cc) (λ x b q k. search (rules, tests))
    ∙ any_of set_of (clash s) xs ∙ any_clashes s (map set_of xs)
