use Rattle.std.proofs.Common.{◌≡◌, true, map, sym, ap, ◌∙◌, subst, vec_items, rules, of_calls, arith}
use Rattle.std.proofs.lemmas.Fn.{always_returns_same}
use Rattle.names.specs.Names.{labels}
use Rattle.records.specs.Sets.{set_of}
use Rattle.zones.specs.Sorted.{is_before_below, place, all_within, sorted, Narrowed}
use Rattle.zones.proofs.Narrow.{before_agrees, placed_part, placed_at}
use Rattle.zones.proofs.sets.SortedSets.place_between.Goals as goal

pub returns-clause-value : goal.returns-clause-value
returns-clause-value c =
    let s = c.args.self.now in
    let a = labels s.apex in
    let n = labels c.args.name.now in
    let xs = c.as_slice.result.now in
    let e : xs ≡ vec_items s.sets = c.as_slice.ensures.value in
    let o = subst (λ zs. sorted (map set_of zs) ≡ true) (sym e) s.ordered in
    let i = subst (λ zs. all_within a (map set_of zs) ≡ true) (sym e) s.inside in
    let r = subst (λ zs. Narrowed a n (map set_of zs) c.args.places.start c.args.places.end) (sym e) c.requires in
    let u = r.rise in
    let p = c.partition_point.ensures.partitioned (λ x. is_before_below c.label_count-depth.result n c.args.kind.number (set_of x)) (always_returns_same _ _ _ (λ x r f k. search (rules, of_calls)))
    (placed_part set_of a n c.args.kind.number xs o i c.args.places.start _ (subst (Narrowed a n (map set_of xs) c.args.places.start) (omega arith) r) (is_before_below c.label_count-depth.result n c.args.kind.number) (before_agrees a n c.args.kind.number c.label_count-depth.result c.label_count-depth.ensures)) in
    placed_at set_of a n c.args.kind.number xs o i c.args.places.start _ (subst (Narrowed a n (map set_of xs) c.args.places.start) (omega arith) r) (is_before_below c.label_count-depth.result n c.args.kind.number) (before_agrees a n c.args.kind.number c.label_count-depth.result c.label_count-depth.ensures) c.partition_point.result c.partition_point.ensures.bound p
    ∙ ap (λ zs. place n c.args.kind.number (map set_of zs)) e
