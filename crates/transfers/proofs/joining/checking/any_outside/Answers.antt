use Rattle.std.proofs.Common.{not, ◌∙◌, rules, tests}
use Rattle.std.proofs.lemmas.Iterator.{YieldsList-from_slice}
use Rattle.std.proofs.lemmas.Iterator.Search.{any_from_yields_List}
use Rattle.names.specs.Names.{labels}
use Rattle.names.specs.Order.{within}
use Rattle.records.specs.Sets.{set_of}
use Rattle.transfers.proofs.Searched.{any_of}
use Rattle.transfers.proofs.joining.checking.any_outside.Goals as goal

pub returns : goal.returns
returns c =
    let xs = c.args.sets.now in
    let apex = labels c.args.apex.now in
    any_from_yields_List (λ x. not (within apex (set_of x).name)) _ _ c.any.result c.any.ensures.ran (YieldsList-from_slice xs cc) (λ x b q k. search (rules, tests))
    ∙ any_of set_of (λ s. not (within apex s.name)) xs
