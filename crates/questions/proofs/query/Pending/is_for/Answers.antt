use Rattle.std.proofs.Common.{◌&&◌, eqb, sym, ◌∙◌}
use Rattle.std.proofs.Math.Bool.{and_assoc}
use Rattle.names.specs.Names.{labels}
use Rattle.meaning.specs.Says.{same}
use Rattle.meaning.proofs.Rules.{told_same}
use Rattle.questions.proofs.query.Pending.is_for.Goals as goal

pub returns : goal.returns
returns c =
    let mine = c.args.self.now.query.key in
    let key = c.args.key.now in
    let kinds = eqb mine.kind.number key.kind.number in
    c.eq.ensures ∙ (λ i. told_same (labels mine.apex) (labels key.apex) i && (told_same (labels mine.name) (labels key.name) i && kinds)) ∙ sym (and_assoc (same (labels mine.apex) (labels key.apex)) (same (labels mine.name) (labels key.name)) kinds)
