use Rattle.std.proofs.Common.{is_some, ap, ◌∙◌, rules, tests}
use lib.ListN.{length-map}
use Rattle.names.specs.Names.{labels}
use Rattle.questions.specs.Tries.{tried_for, tries_of}
use Rattle.questions.proofs.Counting.{usable, unknown}
use Rattle.questions.proofs.question.Question.may_use.Goals as goal

pub returns-then-is_some : goal.returns-then-is_some
returns-then-is_some c =
    let key = c.args.key.now in
    c.if-is_some.true ∙ usable (labels key.apex) (labels key.name) (tries_of c.args.self.now) (c.if-is_some.ensures ∙ ap is_some c.find.ensures)

pub returns-else-is_some : goal.returns-else-is_some
returns-else-is_some c =
    let key = c.args.key.now in
    let ts = tries_of c.args.self.now in
    let u = unknown (labels key.apex) (labels key.name) ts (c.if-is_some.ensures ∙ ap is_some c.find.ensures) in
    search (rules, tests, u, length-map c.args.self.now.tries tried_for)
