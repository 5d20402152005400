use Rattle.std.proofs.Common.{◌≡◌, ◌<◌, ◌≤◌, not, take, drop, length, MatchOption, refl, ap, ◌∙◌, subst, rules, tests}
use Rattle.std.specs.Option.{unwrap_or}
use Rattle.std.proofs.lemmas.Iterator.{YieldsList-from_slice}
use Rattle.std.proofs.lemmas.Iterator.Search.{position_from_yields_List}
use Rattle.std.proofs.lemmas.List.{take_rest}
use Rattle.lines.specs.Lines.{blank, in_word, run}
use Rattle.lines.proofs.Cut.{next_none, next_some}
use Rattle.lines.proofs.Runs.{found_at, front_len}
use Rattle.lines.proofs.WordsIterator.next.Goals as goal

pub returns-in_err-start-clause-steps : goal.returns-in_err-start-clause-steps
returns-in_err-start-clause-steps c =
    let t = c.args.self.now.rest.now in
    let found = position_from_yields_List in_word _ _ c.position.result c.position.ensures.ran (YieldsList-from_slice t cc) (λ x b q k. search (rules, tests)) in
    let at = subst (λ o. MatchOption o (length t ≤ run (λ b. not (in_word b)) t) (λ i. (i ≡ run (λ b. not (in_word b)) t) × (i < length t))) c.in_err-start.was (found_at in_word t c.position.result found) in
    let none = next_none t at in
    search rules

pub returns-clause-steps : goal.returns-clause-steps
returns-clause-steps c =
    let t = c.args.self.now.rest.now in
    let found = position_from_yields_List in_word _ _ c.position.result c.position.ensures.ran (YieldsList-from_slice t cc) (λ x b q k. search (rules, tests)) in
    let at = subst (λ o. MatchOption o (length t ≤ run (λ b. not (in_word b)) t) (λ i. (i ≡ run (λ b. not (in_word b)) t) × (i < length t))) c.in_ok-start.was (found_at in_word t c.position.result found) in
    let rest = take_rest t c.in_ok-start.start in
    let u = drop c.in_ok-start.start t in
    let ends = position_from_yields_List blank _ _ c.position-end.result c.position-end.ensures.ran (YieldsList-from_slice u (c.iter-2.ensures.rest ∙ rest)) (λ x b q k. search (rules, tests)) in
    let len = c.unwrap_or.ensures ∙ ap (λ x. unwrap_or c.position-end.result (length x)) rest ∙ front_len blank u c.position-end.result ends in
    next_some t u c.split_at.result.0.now c.split_at.result.1.now c.in_ok-start.start c.unwrap_or.result at.0 at.1 refl len (c.split_at.ensures.front ∙ ap (take c.unwrap_or.result) rest) (c.split_at.ensures.back ∙ ap (drop c.unwrap_or.result) rest)

pub returns-clause-goes : goal.returns-clause-goes
returns-clause-goes c =
    let fewer = ap length (returns-clause-steps c) in
    search rules
