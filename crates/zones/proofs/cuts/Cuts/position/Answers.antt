use Rattle.std.proofs.Common.{◌≡◌, true, map, vec_items, sym, ap, ◌∙◌, subst, rules, of_calls}
use Rattle.std.proofs.lemmas.Fn.{always_returns_same}
use Rattle.names.specs.Names.{labels}
use Rattle.zones.specs.Cuts.{apart, all_below, cut_place, is_up_to_below}
use Rattle.zones.proofs.Topmost.{cut_part, cut_placed}
use Rattle.zones.proofs.cuts.Cuts.position.Goals as goal

pub returns-clause-value : goal.returns-clause-value
returns-clause-value c =
    λ w.
    let s = c.args.self.now in
    let a = labels s.apex in
    let n = labels c.args.name.now in
    let xs = c.as_slice-names.result.now in
    let e : xs ≡ vec_items s.names = c.as_slice-names.ensures.value in
    let o = subst (λ zs. apart (map labels zs) ≡ true) (sym e) s.ordered in
    let i = subst (λ zs. all_below a (map labels zs) ≡ true) (sym e) s.inside in
    let d = c.label_count-depth.result in
    let p = c.partition_point.ensures.partitioned (λ x. is_up_to_below d n (labels x)) (always_returns_same _ _ _ (λ x r f k. search (rules, of_calls))) (cut_part labels a n xs o i w d c.label_count-depth.ensures) in
    cut_placed labels a n xs o i w d c.label_count-depth.ensures c.partition_point.result c.partition_point.ensures.bound p ∙ ap (λ zs. cut_place n (map labels zs)) e
