use Rattle.std.proofs.Common.{eqb, take, ap, ◌∙◌, rules, tests}
use Rattle.std.proofs.lemmas.Iterator.{YieldsList-from_slice}
use Rattle.std.proofs.lemmas.Iterator.Search.{position_from_yields_List}
use Rattle.lines.proofs.Runs.{front_len}
use Rattle.lines.proofs.read_part.Goals as goal

pub returns : goal.returns
returns c =
    let line = c.args.line.now in
    let found = position_from_yields_List (λ b. eqb b 59) _ _ c.position-end.result c.position-end.ensures.ran (YieldsList-from_slice line cc) (λ x b q k. search (rules, tests)) in
    ap (λ n. take n line) (c.unwrap_or.ensures ∙ front_len (λ b. eqb b 59) line c.position-end.result found)
