use Rattle.std.proofs.Common.{map, ◌∙◌, rules, tests}
use Rattle.std.proofs.lemmas.Iterator.{YieldsList-from_slice}
use Rattle.std.proofs.lemmas.Iterator.Search.{any_from_yields_List}
use Rattle.meaning.specs.Says.{is_exactly}
use Rattle.records.specs.Sets.{set_of}
use Rattle.transfers.proofs.Searched.{any_of, any_found}
use Rattle.transfers.proofs.joining.checking.stands.Goals as goal

pub returns : goal.returns
returns c =
    let xs = c.args.others.now in
    let s = set_of c.args.set.now in
    any_from_yields_List (λ x. is_exactly s.name s.kind (set_of x)) _ _ c.any.result c.any.ensures.ran (YieldsList-from_slice xs cc) (λ x b q k. search (rules, tests))
    ∙ any_of set_of (is_exactly s.name s.kind) xs ∙ any_found (is_exactly s.name s.kind) (map set_of xs)
