use Rattle.std.proofs.Common.{map, length, ap, arith}
use Rattle.machine.specs.Store.{one_a_key}
use Rattle.cache.specs.Entries.{entry_of}
use Rattle.cache.proofs.store.Cache.new.Goals as goal

pub invariant_of-result : goal.invariant_of-result
unfolding one_a_key
invariant_of-result c =
    let m = c.in_ok-entries.ensures in
    let l = ap length c.in_ok-index.ensures in
    let k = ap (λ xs. length (map entry_of xs)) m in
    let z = ap length m in
    record { few = omega arith; apart = ap (λ xs. one_a_key (map entry_of xs)) m; covered = λ i g. absurd (omega arith); even = omega arith }
