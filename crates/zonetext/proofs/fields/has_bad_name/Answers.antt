use Rattle.std.proofs.Common.{◌∙◌, rules, tests}
use Rattle.std.proofs.lemmas.Iterator.{YieldsList-from_slice}
use Rattle.std.proofs.lemmas.Iterator.Search.{any_from_yields_List}
use Rattle.names.specs.Names.{labels}
use Rattle.zonetext.specs.Fields.{bad_name}
use Rattle.zonetext.specs.Readings.{piece_of}
use Rattle.zonetext.proofs.BadNames.{some_bad}
use Rattle.zonetext.proofs.fields.has_bad_name.Goals as goal

pub returns : goal.returns
returns c =
    let apex = labels c.args.apex.now in
    let xs = c.args.pieces.now in
    any_from_yields_List (λ x. bad_name apex (piece_of x)) _ _ c.any.result c.any.ensures.ran (YieldsList-from_slice xs cc) (λ x b q k. search (rules, tests))
    ∙ some_bad apex xs
