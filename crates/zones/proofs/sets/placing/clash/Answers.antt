use Rattle.std.proofs.Common.{◌≡◌, true, nat_eq, ◌&&◌, ◌||◌, sym, ap, ◌∙◌}
use Rattle.std.proofs.Math.Bool.{and-true}
use Rattle.std.proofs.lemmas.Bool.{or_left, or_right}
use Rattle.std.specs.Cmp.Lexicographic.{pointwise}
use Rattle.meaning.specs.Model.{aliases}
use Rattle.meaning.specs.Says.{same}
use Rattle.meaning.proofs.Rules.{told_same}
use Rattle.records.specs.Sets.{set_of}
use Rattle.zones.proofs.sets.placing.clash.Goals.{then-is_alias, else-is_alias}
use Rattle.zones.proofs.sets.placing.clash.Goals as goal

pub returns-then-is_alias-2 : goal.returns-then-is_alias-2
returns-then-is_alias-2 c =
    let s = set_of c.args.set.now in
    let t = set_of c.args.other.now in
    let e = c.eq.ensures ∙ (λ i. pointwise (pointwise nat_eq) (c.name.ensures i) (c.name-then-is_alias-2.ensures i)) ∙ told_same s.name t.name in
    let one : (aliases s.kind || aliases t.kind) ≡ true =
    elim c.if-is_alias.branch [
      | then-is_alias w ↦ or_left (aliases s.kind) (aliases t.kind) (ap aliases (sym c.kind.ensures) ∙ sym c.is_alias.ensures ∙ w.if-is_alias.true)
      | else-is_alias w ↦ or_right (aliases s.kind) (aliases t.kind) (ap aliases (sym w.kind-else-is_alias.ensures) ∙ sym w.is_alias-else-is_alias.ensures ∙ sym w.value-is ∙ c.if-is_alias-2.true)
    ] in
    e ∙ sym (ap (λ b. same s.name t.name && b) one ∙ and-true (same s.name t.name))
