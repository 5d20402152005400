use Rattle.std.proofs.Common.{◌≡◌, ◌+◌, get_or, eqb, ltb, ap, ◌∙◌, sym, subst, vec_items, rules, of_calls, arith}
use Rattle.std.proofs.lemmas.Fn.{always_returns_same}
use Rattle.std.proofs.lemmas.List.Sorted.{IsPartitionedBy-ltb}
use Rattle.names.specs.Fronts.{front_below}
use Rattle.names.specs.Names.{labels}
use Rattle.zones.specs.Sorted.{Narrowed}
use Rattle.zones.specs.Zones.{sets_of}
use Rattle.zones.proofs.Narrow.{fronts_rise, alike_part, narrowed, narrowed_to, alike_all, another_by, there_by}
use Rattle.zones.proofs.sets.SortedSets.narrow_within.Goals as goal

pub returns-then-ne-clause-narrowed : goal.returns-then-ne-clause-narrowed
returns-then-ne-clause-narrowed c =
    let s = c.args.self.now in
    let a = labels s.apex in
    let h = c.front_below-sought.ensures ∙ ap (λ d. front_below d (labels c.args.name.now)) c.label_count.ensures in
    let m = c.as_slice-fronts.ensures.value ∙ s.marked in
    let fs = c.as_slice-fronts.result.now in
    let low = c.partition_point-low.result in
    let p = c.partition_point-low.ensures.partitioned (λ y. ltb y c.front_below-sought.result) (always_returns_same _ _ _ (λ x r f k. search (rules, of_calls)))
    (IsPartitionedBy-ltb (λ y. y) fs c.front_below-sought.result (fronts_rise a (vec_items s.sets) fs s.ordered s.inside m)) in
    subst (Narrowed a (labels c.args.name.now) (sets_of s) low) (omega arith)
    (narrowed_to a (vec_items s.sets) fs s.ordered s.inside m c.args.name.now c.requires c.front_below-sought.result h low c.partition_point-low.ensures.bound p low (omega arith) c.partition_point-low.ensures.bound
    (another_by (λ x. x.now) fs low c.get.result _ c.get.ensures.lookup c.if-ne.ensures))

pub returns-then-ne-clause-alike : goal.returns-then-ne-clause-alike
returns-then-ne-clause-alike c = λ i l k. absurd (omega arith)

pub returns-then-ne-2-clause-narrowed : goal.returns-then-ne-2-clause-narrowed
returns-then-ne-2-clause-narrowed c =
    let s = c.args.self.now in
    let a = labels s.apex in
    let h = c.front_below-sought.ensures ∙ ap (λ d. front_below d (labels c.args.name.now)) c.label_count.ensures in
    let m = c.as_slice-fronts.ensures.value ∙ s.marked in
    let fs = c.as_slice-fronts.result.now in
    let low = c.partition_point-low.result in
    let p = c.partition_point-low.ensures.partitioned (λ y. ltb y c.front_below-sought.result) (always_returns_same _ _ _ (λ x r f k. search (rules, of_calls)))
    (IsPartitionedBy-ltb (λ y. y) fs c.front_below-sought.result (fronts_rise a (vec_items s.sets) fs s.ordered s.inside m)) in
    let l = there_by (λ x. x.now) fs low c.get.result _ c.get.ensures.lookup c.if-ne.ensures in
    let at = l.0 in
    subst (Narrowed a (labels c.args.name.now) (sets_of s) low) (omega arith)
    (narrowed_to a (vec_items s.sets) fs s.ordered s.inside m c.args.name.now c.requires c.front_below-sought.result h low c.partition_point-low.ensures.bound p (low + 1) (omega arith) (omega arith)
    (another_by (λ x. x.now) fs (low + 1) c.get-2.result _ c.get-2.ensures.lookup c.if-ne-2.ensures))

pub returns-then-ne-2-clause-alike : goal.returns-then-ne-2-clause-alike
returns-then-ne-2-clause-alike c = λ i l k.
    let low = c.partition_point-low.result in
    let h = c.front_below-sought.ensures ∙ ap (λ d. front_below d (labels c.args.name.now)) c.label_count.ensures in
    let e : i ≡ low = omega arith in
    ap (λ fs. get_or fs i 0) (sym c.as_slice-fronts.ensures.value) ∙ ap (λ j. get_or c.as_slice-fronts.result.now j 0) e
    ∙ (there_by (λ x. x.now) c.as_slice-fronts.result.now low c.get.result _ c.get.ensures.lookup c.if-ne.ensures).1 ∙ h

pub returns-clause-narrowed : goal.returns-clause-narrowed
returns-clause-narrowed c =
    let s = c.args.self.now in
    let a = labels s.apex in
    let h = c.front_below-sought.ensures ∙ ap (λ d. front_below d (labels c.args.name.now)) c.label_count.ensures in
    let m = c.as_slice-fronts.ensures.value ∙ s.marked in
    let fs = c.as_slice-fronts.result.now in
    let low = c.partition_point-low.result in
    let p = c.partition_point-low.ensures.partitioned (λ y. ltb y c.front_below-sought.result) (always_returns_same _ _ _ (λ x r f k. search (rules, of_calls)))
    (IsPartitionedBy-ltb (λ y. y) fs c.front_below-sought.result (fronts_rise a (vec_items s.sets) fs s.ordered s.inside m)) in
    let q = c.partition_point-alike.ensures.partitioned (λ y. eqb y c.front_below-sought.result) (always_returns_same _ _ _ (λ x r f k. search (rules, of_calls)))
    (alike_part a (vec_items s.sets) fs s.ordered s.inside m c.args.name.now (c.requires) c.front_below-sought.result h low c.partition_point-low.ensures.bound p) in
    narrowed a (vec_items s.sets) fs s.ordered s.inside m c.args.name.now (c.requires) c.front_below-sought.result h low c.partition_point-low.ensures.bound p
    c.partition_point-alike.result c.partition_point-alike.ensures.bound q

pub returns-clause-alike : goal.returns-clause-alike
returns-clause-alike c =
    let s = c.args.self.now in
    let a = labels s.apex in
    let h = c.front_below-sought.ensures ∙ ap (λ d. front_below d (labels c.args.name.now)) c.label_count.ensures in
    let m = c.as_slice-fronts.ensures.value ∙ s.marked in
    let fs = c.as_slice-fronts.result.now in
    let low = c.partition_point-low.result in
    let p = c.partition_point-low.ensures.partitioned (λ y. ltb y c.front_below-sought.result) (always_returns_same _ _ _ (λ x r f k. search (rules, of_calls)))
    (IsPartitionedBy-ltb (λ y. y) fs c.front_below-sought.result (fronts_rise a (vec_items s.sets) fs s.ordered s.inside m)) in
    let q = c.partition_point-alike.ensures.partitioned (λ y. eqb y c.front_below-sought.result) (always_returns_same _ _ _ (λ x r f k. search (rules, of_calls)))
    (alike_part a (vec_items s.sets) fs s.ordered s.inside m c.args.name.now (c.requires) c.front_below-sought.result h low c.partition_point-low.ensures.bound p) in
    let all = alike_all a (vec_items s.sets) fs s.ordered s.inside m c.args.name.now (c.requires) c.front_below-sought.result h low c.partition_point-low.ensures.bound p
    c.partition_point-alike.result c.partition_point-alike.ensures.bound q in
    λ i l k. ap (λ zs. get_or zs i 0) (sym c.as_slice-fronts.ensures.value) ∙ all i l k ∙ h
