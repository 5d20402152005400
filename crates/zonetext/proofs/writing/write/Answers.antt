use Rattle.std.proofs.Common.{◌≡◌, true, [], ◌∷◌, ◌++◌, map, vec_items, sym, subst, ap, ◌∙◌}
use Rattle.std.specs.List.{list_all}
use Rattle.names.proofs.Laws.{labels_proper}
use Rattle.records.specs.Sets.{set_of}
use Rattle.zones.specs.Zones.{zone_of}
use Rattle.zonetext.specs.Texts.{text_meaning}
use Rattle.zonetext.specs.TextLaws.{Good, good_set}
use Rattle.zonetext.specs.Written.{set_line, sets_text, heads_before, holds_set, holds, written_zone}
use Rattle.zonetext.proofs.Appending.{one_more, all_done, one_held, all_held, sets_none, sets_cons, zone_done}
use Rattle.zonetext.proofs.Whole.{read_written}
use Rattle.zonetext.proofs.writing.write.Goals as goal

pub loop-set-preserved : goal.loop-set-preserved
loop-set-preserved c =
    let apex = (zone_of c.args.zone.now).apex in
    let x = c.set-item.result in
    let w = subst (λ a. (holds_set a (set_of x) ≡ true) × (vec_items c.write_set.new.out ≡ vec_items c.loop-set.out ++ (set_line a (set_of x) ++ 10 ∷ []))) c.apex.ensures c.in_ok-write_set.ensures.written in
    record {
      all = c.loop-set.invariant.all;
      done = one_more (λ xs. sets_text apex (map set_of xs)) (λ y. set_line apex (set_of y) ++ 10 ∷ []) (λ y ys. sets_cons apex (set_of y) (map set_of ys)) _ _ (vec_items c.loop-set.out) c.loop-set.set-index c.loop-set.invariant.done (vec_items c.write_set.new.out) x x c.loop-set-test.true c.set-item.is w.1;
      good = one_held good_set set_of _ c.loop-set.set-index c.loop-set.invariant.good x c.loop-set-test.true c.set-item.is c.in_ok-write_set.ensures.good;
      held = one_held (holds_set apex) set_of _ c.loop-set.set-index c.loop-set.invariant.held x c.loop-set-test.true c.set-item.is w.0;
    }

pub returns : goal.returns
returns c =
    let z = zone_of c.args.zone.now in
    let all = c.loop-set.invariant.all in
    let there = all_done (λ xs. sets_text z.apex (map set_of xs)) (sets_none z.apex) _ _ (vec_items c.loop-set.out) c.loop-set.set-index c.loop-set.invariant.done c.loop-set-test.false in
    let held = all_held (holds_set z.apex) set_of _ c.loop-set.set-index c.loop-set.invariant.held c.loop-set-test.false in
    let text : (holds z ≡ true) × (vec_items c.loop-set.out ≡ written_zone z) = (ap (list_all (holds_set z.apex)) (sym all) ∙ held, zone_done z _ _ (c.in_ok-write_heads.ensures.written ∙ ap (λ xs. xs ++ heads_before z []) c.new-out.ensures.items) (there ∙ ap (λ ss. vec_items c.write_heads.new.out ++ sets_text z.apex ss) all)) in
    let good : Good z = record {
      apex = labels_proper c.args.zone.now.sets.apex;
      serial = c.in_ok-write_heads.ensures.serial;
      times = c.in_ok-write_heads.ensures.times;
      sets = ap (list_all good_set) (sym all) ∙ all_held good_set set_of _ c.loop-set.set-index c.loop-set.invariant.good c.loop-set-test.false;
      ordered = c.args.zone.now.sets.ordered;
      limited = c.args.zone.now.limited;
    } in
    record { text = text; read = λ old room new. ap (text_meaning old) text.1 ∙ read_written old z good text.0 room new }
