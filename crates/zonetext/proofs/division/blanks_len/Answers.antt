use Rattle.std.proofs.Common.{not, ◌∙◌, rules, tests}
use Rattle.std.proofs.Math.Bool.{not-not}
use Rattle.std.proofs.lemmas.Iterator.{YieldsList-from_slice}
use Rattle.std.proofs.lemmas.Iterator.Search.{position_from_yields_List}
use Rattle.lines.specs.Lines.{blank}
use Rattle.zonetext.proofs.Runs.{front_len}
use Rattle.zonetext.proofs.division.blanks_len.Goals as goal

pub returns-clause-value : goal.returns-clause-value
returns-clause-value c =
    let xs = c.args.bytes.now in
    let found = position_from_yields_List (λ b. not (blank b)) _ _ c.position-end.result c.position-end.ensures.ran (YieldsList-from_slice xs cc) (λ x b q k. search (rules, tests)) in
    c.unwrap_or.ensures ∙ front_len (λ b. not (blank b)) blank (λ b. not-not (blank b)) xs c.position-end.result found
