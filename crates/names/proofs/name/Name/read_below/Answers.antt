use Rattle.std.proofs.Common.{◌≡◌, true, false, ◌++◌, Ok, sym, ap, ◌∙◌, rules}
use Rattle.names.specs.Names.{labels, name_of}
use Rattle.names.specs.Reading.{labels_in, is_dot, last_dot}
use Rattle.names.proofs.Readings.{below_dot, below_whole, below_short, same_dot, same_end}
use Rattle.names.proofs.name.Name.read_below.Goals as goal

pub returns-then-eq : goal.returns-then-eq
returns-then-eq c =
    let dot : is_dot c.args.text.now ≡ true = search (rules, same_dot) in
    ap Ok c.root.ensures ∙ sym (below_dot c.args.text.now (labels c.args.apex.now) dot)

pub returns-in-Some : goal.returns-in-Some
returns-in-Some c =
    let t = c.args.text.now in
    let other : is_dot t ≡ false = search (rules, same_dot) in
    let whole : last_dot t ≡ true = sym (same_end t) ∙ c.in-Some.ensures.cases.0 in
    c.extended.ensures ∙ (λ i. name_of (c.root-in-Some.ensures i ++ labels_in (c.in-Some.ensures.cases.1 i))) ∙ sym (below_whole t (labels c.args.apex.now) other whole)

pub returns-in-None : goal.returns-in-None
returns-in-None c =
    let t = c.args.text.now in
    let other : is_dot t ≡ false = search (rules, same_dot) in
    let short : last_dot t ≡ false = sym (same_end t) ∙ c.in-None.ensures.cases in
    c.extended-in-None.ensures ∙ sym (below_short t (labels c.args.apex.now) other short)
