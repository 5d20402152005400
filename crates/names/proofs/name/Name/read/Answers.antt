use Rattle.std.proofs.Common.{◌≡◌, true, false, ◌++◌, Ok, sym, ap, ◌∙◌, rules}
use Rattle.names.specs.Names.{name_of}
use Rattle.names.specs.Reading.{labels_in, is_dot}
use Rattle.names.proofs.Readings.{read_dot, read_labels, same_dot}
use Rattle.names.proofs.name.Name.read.Goals as goal

pub returns-then-eq : goal.returns-then-eq
returns-then-eq c =
    let dot : is_dot c.args.text.now ≡ true = search (rules, same_dot) in
    ap Ok c.root.ensures ∙ sym (read_dot c.args.text.now dot)

pub returns-else-eq : goal.returns-else-eq
returns-else-eq c =
    let other : is_dot c.args.text.now ≡ false = search (rules, same_dot) in
    c.extended.ensures ∙ ap (λ ls. name_of (ls ++ labels_in c.args.text.now)) c.root-else-eq.ensures ∙ sym (read_labels c.args.text.now other)
