use Rattle.std.proofs.Common.{true, false, not, map, length, sym, ap, ◌∙◌, arith}
use Rattle.std.specs.List.{list_any}
use Rattle.std.proofs.lemmas.Bool.{or_from}
use Rattle.std.proofs.lemmas.List.{length-map}
use Rattle.records.specs.Sets.{set_of}
use Rattle.zones.specs.Valid.{no_clash, added}
use Rattle.zones.specs.Zones.{zone_of}
use Rattle.transfers.specs.Joining.{any_twice}
use Rattle.transfers.specs.Joinings.{is_misplaced, is_conflict}
use Rattle.transfers.proofs.Judging.{or_left, or_right, misplaced, conflict, too_much, all_in, beside_misplaced, beside_conflict}
use Rattle.transfers.proofs.joining.checking.check_beside.Goals.{then-any_twice-via-then-any_twice, then-any_twice-via-else-any_twice+then-any_misplaced, then-any_clash-via-then-any_clash, then-any_clash-via-else-any_clash+then-any_conflict}
use Rattle.transfers.proofs.joining.checking.check_beside.Goals as goal

pub returns-then-any_twice : goal.returns-then-any_twice
returns-then-any_twice c =
    let z = zone_of c.args.zone.now in
    let ss = map set_of c.args.sets.now in
    let refused = list_any (λ s. is_misplaced (added z.apex z.sets s)) ss in
    misplaced z.apex z.sets ss (beside_misplaced z.apex z.sets ss true (elim c.then-any_twice.branch [
      | then-any_twice-via-then-any_twice w ↦ or_left (any_twice ss) refused (sym c.any_twice.ensures ∙ w.if-any_twice.true)
      | then-any_twice-via-else-any_twice+then-any_misplaced w ↦ or_right (any_twice ss) refused (sym w.any_misplaced.ensures ∙ w.if-any_misplaced.true)
    ]))

pub returns-then-any_clash : goal.returns-then-any_clash
returns-then-any_clash c =
    let z = zone_of c.args.zone.now in
    let ss = map set_of c.args.sets.now in
    let refused = list_any (λ s. is_conflict (added z.apex z.sets s)) ss in
    let placed = beside_misplaced z.apex z.sets ss false (or_from (any_twice ss) (list_any (λ s. is_misplaced (added z.apex z.sets s)) ss) (sym c.any_twice.ensures ∙ c.if-any_twice.false) (sym c.any_misplaced.ensures ∙ c.if-any_misplaced.false)) in
    conflict z.apex z.sets ss placed (beside_conflict z.apex z.sets ss true placed (elim c.then-any_clash.branch [
      | then-any_clash-via-then-any_clash w ↦ or_left (not (no_clash ss)) refused (sym c.any_clash.ensures ∙ w.if-any_clash.true)
      | then-any_clash-via-else-any_clash+then-any_conflict w ↦ or_right (not (no_clash ss)) refused (sym w.any_conflict.ensures ∙ w.if-any_conflict.true)
    ]))

pub returns-then-sets-gt-MAX_SETS : goal.returns-then-sets-gt-MAX_SETS
returns-then-sets-gt-MAX_SETS c =
    let z = zone_of c.args.zone.now in
    let ss = map set_of c.args.sets.now in
    let placed = beside_misplaced z.apex z.sets ss false (or_from (any_twice ss) (list_any (λ s. is_misplaced (added z.apex z.sets s)) ss) (sym c.any_twice.ensures ∙ c.if-any_twice.false) (sym c.any_misplaced.ensures ∙ c.if-any_misplaced.false)) in
    let apart = beside_conflict z.apex z.sets ss false placed (or_from (not (no_clash ss)) (list_any (λ s. is_conflict (added z.apex z.sets s)) ss) (sym c.any_clash.ensures ∙ c.if-any_clash.false) (sym c.any_conflict.ensures ∙ c.if-any_conflict.false)) in
    let there = ap length c.sets.ensures in
    too_much z.apex z.sets ss placed apart (omega (arith, length-map c.args.sets.now set_of, length-map c.sets.result.now set_of))

pub returns : goal.returns
returns c =
    let z = zone_of c.args.zone.now in
    let ss = map set_of c.args.sets.now in
    let placed = beside_misplaced z.apex z.sets ss false (or_from (any_twice ss) (list_any (λ s. is_misplaced (added z.apex z.sets s)) ss) (sym c.any_twice.ensures ∙ c.if-any_twice.false) (sym c.any_misplaced.ensures ∙ c.if-any_misplaced.false)) in
    let apart = beside_conflict z.apex z.sets ss false placed (or_from (not (no_clash ss)) (list_any (λ s. is_conflict (added z.apex z.sets s)) ss) (sym c.any_clash.ensures ∙ c.if-any_clash.false) (sym c.any_conflict.ensures ∙ c.if-any_conflict.false)) in
    let there = ap length c.sets.ensures in
    all_in z.apex z.sets ss placed apart (omega (arith, length-map c.args.sets.now set_of, length-map c.sets.result.now set_of))
