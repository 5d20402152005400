use Rattle.std.proofs.Common.{eqb, refl, ◌∙◌, rules, tests}
use Rattle.std.proofs.lemmas.Iterator.{YieldsList-from_slice}
use Rattle.std.proofs.lemmas.Iterator.Search.{position_from_yields_List}
use Rattle.zonetext.specs.Division.{in_text}
use Rattle.zonetext.proofs.Runs.{front_len}
use Rattle.zonetext.proofs.division.text_len.Goals as goal

pub returns-clause-value : goal.returns-clause-value
returns-clause-value c =
    let xs = c.args.bytes.now in
    let found = position_from_yields_List (λ b. eqb b 34) _ _ c.position-end.result c.position-end.ensures.ran (YieldsList-from_slice xs cc) (λ x b q k. search (rules, tests)) in
    c.unwrap_or.ensures ∙ front_len (λ b. eqb b 34) in_text (λ b. refl) xs c.position-end.result found
