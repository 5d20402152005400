use Rattle.std.proofs.Common.{true, false, not, [], map, sym, ◌∙◌, arith}
use Rattle.std.proofs.lemmas.Bool.{or_from}
use Rattle.std.proofs.lemmas.List.{length-map}
use Rattle.names.specs.Names.{labels}
use Rattle.records.specs.Sets.{set_of}
use Rattle.zones.specs.Valid.{no_clash}
use Rattle.transfers.specs.Joining.{any_outside, any_twice, any_cut_at}
use Rattle.transfers.proofs.Judging.{or_left, or_right, misplaced, conflict, too_much, all_in, alone_misplaced, alone_conflict}
use Rattle.transfers.proofs.joining.checking.check_alone.Goals.{then-any_outside-via-then-any_outside, then-any_outside-via-else-any_outside+then-any_twice, then-any_cut_at-via-then-any_cut_at, then-any_cut_at-via-else-any_cut_at+then-any_clash}
use Rattle.transfers.proofs.joining.checking.check_alone.Goals as goal

pub returns-then-any_outside : goal.returns-then-any_outside
returns-then-any_outside c =
    let apex = labels c.args.apex.now in
    let ss = map set_of c.args.sets.now in
    misplaced apex [] ss (alone_misplaced apex ss true (elim c.then-any_outside.branch [
      | then-any_outside-via-then-any_outside w ↦ or_left (any_outside apex ss) (any_twice ss) (sym c.any_outside.ensures ∙ w.if-any_outside.true)
      | then-any_outside-via-else-any_outside+then-any_twice w ↦ or_right (any_outside apex ss) (any_twice ss) (sym w.any_twice.ensures ∙ w.if-any_twice.true)
    ]))

pub returns-then-any_cut_at : goal.returns-then-any_cut_at
returns-then-any_cut_at c =
    let apex = labels c.args.apex.now in
    let ss = map set_of c.args.sets.now in
    let placed = alone_misplaced apex ss false (or_from (any_outside apex ss) (any_twice ss) (sym c.any_outside.ensures ∙ c.if-any_outside.false) (sym c.any_twice.ensures ∙ c.if-any_twice.false)) in
    conflict apex [] ss placed (alone_conflict apex ss true (elim c.then-any_cut_at.branch [
      | then-any_cut_at-via-then-any_cut_at w ↦ or_left (any_cut_at apex ss) (not (no_clash ss)) (sym c.any_cut_at.ensures ∙ w.if-any_cut_at.true)
      | then-any_cut_at-via-else-any_cut_at+then-any_clash w ↦ or_right (any_cut_at apex ss) (not (no_clash ss)) (sym w.any_clash.ensures ∙ w.if-any_clash.true)
    ]))

pub returns-then-sets-gt-MAX_SETS : goal.returns-then-sets-gt-MAX_SETS
returns-then-sets-gt-MAX_SETS c =
    let apex = labels c.args.apex.now in
    let ss = map set_of c.args.sets.now in
    let placed = alone_misplaced apex ss false (or_from (any_outside apex ss) (any_twice ss) (sym c.any_outside.ensures ∙ c.if-any_outside.false) (sym c.any_twice.ensures ∙ c.if-any_twice.false)) in
    let apart = alone_conflict apex ss false (or_from (any_cut_at apex ss) (not (no_clash ss)) (sym c.any_cut_at.ensures ∙ c.if-any_cut_at.false) (sym c.any_clash.ensures ∙ c.if-any_clash.false)) in
    too_much apex [] ss placed apart (omega (arith, length-map c.args.sets.now set_of))

pub returns : goal.returns
returns c =
    let apex = labels c.args.apex.now in
    let ss = map set_of c.args.sets.now in
    let placed = alone_misplaced apex ss false (or_from (any_outside apex ss) (any_twice ss) (sym c.any_outside.ensures ∙ c.if-any_outside.false) (sym c.any_twice.ensures ∙ c.if-any_twice.false)) in
    let apart = alone_conflict apex ss false (or_from (any_cut_at apex ss) (not (no_clash ss)) (sym c.any_cut_at.ensures ∙ c.if-any_cut_at.false) (sym c.any_clash.ensures ∙ c.if-any_clash.false)) in
    all_in apex [] ss placed apart (omega (arith, length-map c.args.sets.now set_of))
