use Rattle.std.proofs.Common.{◌≡◌, ◌+◌, true, map, length, is_ok, vec_items, sym, ap, ◌∙◌, subst, rules, of_calls, refl, arith}
use Rattle.std.specs.List.{insert, remove_range}
use Rattle.std.proofs.lemmas.Bool.{cond-true}
use Rattle.std.proofs.lemmas.Fn.{always_returns_same}
use Rattle.names.specs.Names.{labels}
use Rattle.names.specs.Order.{within}
use Rattle.zones.specs.Cuts.{apart, all_below, with_cut, cut_place}
use Rattle.zones.specs.Zones.{cuts_in}
use Rattle.zones.proofs.OneMore.{fewer, below_part, put_over, new_apart, new_below}
use Rattle.zones.proofs.cuts.Cuts.add.Goals as goal

pub invariant_of-self : goal.invariant_of-self
invariant_of-self c =
    let s = c.args.self.now in
    let n = labels c.args.name in
    let xs = c.as_slice.result.now in
    let e : xs ≡ vec_items s.names = c.as_slice.ensures.value in
    let at = c.position-at.result in
    let p = c.position-at.ensures.value c.requires.inside ∙ ap (λ zs. cut_place n (map labels zs)) (sym e) in
    let o = subst (λ zs. apart (map labels zs) ≡ true) (sym e) s.ordered in
    let q = c.partition_point-below.ensures.partitioned (λ x. within n (labels x)) (always_returns_same _ _ _ (λ x r f k. search (rules, of_calls))) (below_part labels n xs o at p) in
    let m = c.partition_point-below.result in
    let kept = c.take_out.ensures.items ∙ ap (λ zs. remove_range zs at (at + m)) (sym e) in
    let fits = fewer xs (vec_items c.take_out.new.names) at (at + m) (omega arith) kept in
    let full = c.take_out.ensures.capacity in
    let is = put_over labels n xs o at p m c.partition_point-below.ensures.bound q c.args.name (vec_items c.take_out.new.names) (vec_items c.insert.new.self) refl kept
    (c.insert.ensures.items ∙ cond-true (is_ok c.insert.result) (insert (vec_items c.take_out.new.names) at c.args.name) (vec_items c.take_out.new.names) (c.insert.ensures.succeeds (omega (arith, fits, full, c.requires.room, c.take_out.new.names.ok.0, ap length e, c.args.self.now.names.ok.0)))) ∙ ap (λ zs. with_cut n (map labels zs)) e in
    record {
      ordered = ap apart is ∙ new_apart n (cuts_in s) s.ordered (sym c.requires.topmost);
      inside = ap (all_below (labels s.apex)) is ∙ new_below (labels s.apex) n (cuts_in s) c.requires.inside s.inside;
    }

pub returns-clause-cuts : goal.returns-clause-cuts
returns-clause-cuts c =
    let s = c.args.self.now in
    let n = labels c.args.name in
    let xs = c.as_slice.result.now in
    let e : xs ≡ vec_items s.names = c.as_slice.ensures.value in
    let at = c.position-at.result in
    let p = c.position-at.ensures.value c.requires.inside ∙ ap (λ zs. cut_place n (map labels zs)) (sym e) in
    let o = subst (λ zs. apart (map labels zs) ≡ true) (sym e) s.ordered in
    let q = c.partition_point-below.ensures.partitioned (λ x. within n (labels x)) (always_returns_same _ _ _ (λ x r f k. search (rules, of_calls))) (below_part labels n xs o at p) in
    let m = c.partition_point-below.result in
    let kept = c.take_out.ensures.items ∙ ap (λ zs. remove_range zs at (at + m)) (sym e) in
    let fits = fewer xs (vec_items c.take_out.new.names) at (at + m) (omega arith) kept in
    let full = c.take_out.ensures.capacity in
    put_over labels n xs o at p m c.partition_point-below.ensures.bound q c.args.name (vec_items c.take_out.new.names) (vec_items c.insert.new.self) refl kept
    (c.insert.ensures.items ∙ cond-true (is_ok c.insert.result) (insert (vec_items c.take_out.new.names) at c.args.name) (vec_items c.take_out.new.names) (c.insert.ensures.succeeds (omega (arith, fits, full, c.requires.room, c.take_out.new.names.ok.0, ap length e, c.args.self.now.names.ok.0)))) ∙ ap (λ zs. with_cut n (map labels zs)) e
