use Rattle.std.proofs.Common.{◌≡◌, true, [], ◌∷◌, map, length, sym, ap, ◌∙◌, subst, length-append, arith}
use lib.ListN.{length-map}
use Rattle.std.proofs.lemmas.List.{map_push}
use Rattle.bounded.proofs.Writing.{pushed}
use Rattle.machine.specs.Store.{one_a_key}
use Rattle.cache.specs.Entries.{entry_of, rules}
use Rattle.cache.specs.Caches.{entries_of}
use Rattle.cache.specs.Hints.{hinted, Covers}
use Rattle.cache.specs.Indexes.{hints_of}
use Rattle.cache.proofs.Covering.{covers_push}
use Rattle.cache.proofs.Storing.{one_appended}
use Rattle.cache.proofs.store.Cache.append.Goals as goal

pub invariant_of-self : goal.invariant_of-self
invariant_of-self c =
    let self = c.args.self.now in
    let e = c.args.entry in
    let m = length-map self.entries entry_of in
    let w = c.requires.1 in
    let v = self.even in
    let j = c.insert.ensures in
    let il = j.len in
    let es = pushed 1024 self.entries c.push.new.self e c.push.result c.push.ensures (omega arith) in
    let long = ap length es ∙ length-append self.entries (e ∷ []) in
    let fs = ap (map entry_of) es ∙ map_push entry_of self.entries e in
    let there = subst (λ h. hinted h (length (entries_of self)) (hints_of c.insert.new.self) ≡ true) c.hash.ensures (subst (λ k. hinted c.hash.result k (hints_of c.insert.new.self) ≡ true) c.len-place.ensures.value j.there) in
    record { few = omega arith; apart = ap one_a_key fs ∙ one_appended rules (entry_of e) (entries_of self) self.apart c.requires.0 c.requires.1; covered = subst (Covers (hints_of c.insert.new.self)) (sym fs) (covers_push (hints_of self.index) (hints_of c.insert.new.self) (entries_of self) (entry_of e) self.covered j.others there); even = omega arith }
