use Rattle.std.proofs.Common.{◌∙◌, rules, tests}
use Rattle.std.proofs.lemmas.Iterator.{YieldsList-from_slice}
use Rattle.std.proofs.lemmas.Iterator.Search.{position_from_yields_List}
use Rattle.names.specs.Names.{labels}
use Rattle.machine.specs.Machine.{is_word}
use Rattle.questions.specs.Tries.{tried_for}
use Rattle.questions.proofs.Finding.{place_in}
use Rattle.questions.proofs.question.Question.find.Goals as goal

pub returns : goal.returns
returns c =
    let test = is_word (labels c.args.key.now.apex) (labels c.args.key.now.name) in
    position_from_yields_List (λ t. test (tried_for t)) _ _ _ c.position.ensures.ran (YieldsList-from_slice c.args.self.now.tries cc) (λ x b q k. search (rules, tests))
    ∙ place_in tried_for test c.args.self.now.tries
