use Rattle.std.proofs.Common.{length, sym, ap, ◌∙◌, true≢false, arith, rules}
use Rattle.std.proofs.lemmas.Bool.{eq-eqb, eqb-true}
use Rattle.names.specs.Names.{labels}
use Rattle.names.specs.Order.{within}
use Rattle.meaning.specs.Model.{aliases}
use Rattle.records.specs.Sets.{set_of}
use Rattle.zones.proofs.Beside.{of_other, of_below, of_data, of_alias, of_empty}
use Rattle.zones.proofs.sets.reply.reply_of.Goals as goal

pub returns-then-not-is_within : goal.returns-then-not-is_within
returns-then-not-is_within c =
    let law = of_other (labels c.args.name.now) c.args.kind.number (set_of c.args.set.now) (sym (c.if-not-is_within.ensures ∙ ap (within (labels c.args.name.now)) c.name-own.ensures)) in
    search rules

pub returns-then-label_count : goal.returns-then-label_count
returns-then-label_count c =
    let e = ap length c.name-own.ensures in
    let law = of_below (labels c.args.name.now) c.args.kind.number (set_of c.args.set.now) (sym (c.if-not-is_within.ensures ∙ ap (within (labels c.args.name.now)) c.name-own.ensures)) (λ l. omega arith) in
    search rules

pub returns-then-eq : goal.returns-then-eq
returns-then-eq c =
    let e = ap length c.name-own.ensures in
    let k = c.kind-own_kind.ensures in
    let law = of_data (labels c.args.name.now) c.args.kind.number (set_of c.args.set.now) (sym (c.if-not-is_within.ensures ∙ ap (within (labels c.args.name.now)) c.name-own.ensures)) (omega arith) (sym k ∙ eqb-true c.kind-own_kind.result.number c.args.kind.number (sym c.if-eq.ensures)) in
    search rules

pub returns-then-is_alias : goal.returns-then-is_alias
returns-then-is_alias c =
    let e = ap length c.name-own.ensures in
    let k = c.kind-own_kind.ensures in
    let law = of_alias (labels c.args.name.now) c.args.kind.number (set_of c.args.set.now) (sym (c.if-not-is_within.ensures ∙ ap (within (labels c.args.name.now)) c.name-own.ensures)) (omega arith) (λ f. true≢false (sym (eq-eqb c.kind-own_kind.result.number c.args.kind.number (k ∙ f)) ∙ sym c.if-eq.ensures)) (sym (c.if-is_alias.ensures ∙ ap aliases c.kind-own_kind.ensures)) in
    search rules

pub returns : goal.returns
returns c =
    let e = ap length c.name-own.ensures in
    let k = c.kind-own_kind.ensures in
    let law = of_empty (labels c.args.name.now) c.args.kind.number (set_of c.args.set.now) (sym (c.if-not-is_within.ensures ∙ ap (within (labels c.args.name.now)) c.name-own.ensures)) (omega arith) (λ f. true≢false (sym (eq-eqb c.kind-own_kind.result.number c.args.kind.number (k ∙ f)) ∙ sym c.if-eq.ensures)) (sym (c.if-is_alias.ensures ∙ ap aliases c.kind-own_kind.ensures)) in
    search rules
