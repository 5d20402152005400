use Rattle.std.proofs.Common.{ap, ◌∙◌, rules, tests}
use Rattle.std.proofs.lemmas.Iterator.{YieldsList-from_slice}
use Rattle.std.proofs.lemmas.Iterator.Search.{find_from_yields_List}
use Rattle.std.specs.Option.{option_map}
use Rattle.names.specs.Names.{labels}
use Rattle.machine.specs.Machine.{is_for}
use Rattle.questions.specs.Queries.{pending_of}
use Rattle.questions.proofs.Finding.{first_of}
use Rattle.questions.proofs.table.PendingTable.for_word.Goals as goal

pub returns : goal.returns
returns c =
    let test = is_for (labels c.args.key.now.apex) (labels c.args.key.now.name) c.args.key.now.kind.number in
    ap (option_map pending_of) (c.copied.ensures ∙ find_from_yields_List (λ x. test (pending_of x)) _ _ _ c.find.ensures.ran (YieldsList-from_slice c.args.self.now.queries cc) (λ x b q k. search (rules, tests)))
    ∙ first_of pending_of test c.args.self.now.queries
