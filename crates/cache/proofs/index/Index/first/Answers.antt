use Rattle.std.proofs.Common.{◌<◌, ◌≤◌, length, ltb, ltb-true, ltb-false, sym, subst, arith, rules}
use Rattle.std.proofs.lemmas.List.Sorted.{IsPartitionPoint-from_clause, IsPartitionedBy-ltb}
use Rattle.cache.specs.Hints.{hash_in, hash_at, Rising}
use Rattle.cache.proofs.Hinting.{blank, ordered}
use Rattle.cache.proofs.index.Index.first.Goals as goal

pub returns : goal.returns
returns c =
    let xs = c.as_slice.result.now in
    let e = c.as_slice.ensures.value in
    let parted = IsPartitionedBy-ltb hash_in xs c.args.hash (ordered xs (subst Rising (sym e) c.args.self.now.rising)) in
    let point = IsPartitionPoint-from_clause (λ x. ltb (hash_in x) c.args.hash) xs _ c.partition_point.ensures.partitioned parted (λ a r q k. search rules) in
    let low = point.0 in
    let high = point.1 in
    record {
      within = subst (λ ys. c.partition_point.result ≤ length ys) e c.partition_point.ensures.bound;
      below = λ k l. subst (λ ys. hash_at ys k < c.args.hash) e (ltb-true _ _ (low k blank (omega arith) l));
      above = λ k l m. subst (λ ys. c.args.hash ≤ hash_at ys k) e (ltb-false _ _ (high k blank l (subst (λ ys. k < length ys) (sym e) m)));
    }
