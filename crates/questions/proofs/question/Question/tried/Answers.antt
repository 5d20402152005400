use Rattle.std.proofs.Common.{ap, ◌∙◌, rules, tests}
use Rattle.std.proofs.lemmas.Iterator.{YieldsList-from_slice}
use Rattle.std.proofs.lemmas.Iterator.Search.{find_from_yields_List}
use Rattle.std.specs.Option.{option_map}
use Rattle.names.specs.Names.{labels}
use Rattle.machine.specs.Machine.{is_word}
use Rattle.questions.specs.Tries.{tried_for}
use Rattle.questions.proofs.Finding.{first_of}
use Rattle.questions.proofs.question.Question.tried.Goals as goal

pub returns : goal.returns
returns c =
    let test = is_word (labels c.args.key.now.apex) (labels c.args.key.now.name) in
    ap (option_map tried_for) (c.copied.ensures ∙ find_from_yields_List (λ x. test (tried_for x)) _ _ _ c.find.ensures.ran (YieldsList-from_slice c.args.self.now.tries cc) (λ x b q k. search (rules, tests)))
    ∙ first_of tried_for test c.args.self.now.tries
