use Rattle.std.proofs.Common.{◌≡◌, true, ltb, sym, ap, ◌∙◌, rules}
use Rattle.wire.specs.Parts.{content_keeps}
use Rattle.wire.proofs.Keeping.{set_kept}
use Rattle.wire.proofs.buffer.Buffer.set.Goals as goal

pub returns-clause-kept : goal.returns-clause-kept
returns-clause-kept c =
    let time : ltb c.args.set.now.ttl.0 4294967296 ≡ true = search rules in
    set_kept c.args.set.now time (ap content_keeps (sym c.data.ensures) ∙ c.data-2.ensures.kept)
