use Rattle.std.proofs.Common.{◌≡◌, true, length, get_or, sym, ap, ◌∙◌, subst, length-set, arith}
use Rattle.bounded.proofs.Writing.{written_one, written_as}
use Rattle.machine.specs.Store.{one_a_key}
use Rattle.cache.specs.Entries.{entry_of, rules}
use Rattle.cache.specs.Caches.{entries_of}
use Rattle.cache.specs.Hints.{hinted, nobody, hash_for, Covers}
use Rattle.cache.specs.Indexes.{hints_of}
use Rattle.cache.proofs.Covering.{covers_set}
use Rattle.cache.proofs.Storing.{one_ousted}
use Rattle.cache.proofs.store.Cache.oust.Goals as goal

pub invariant_of-self : goal.invariant_of-self
invariant_of-self c =
    let self = c.args.self.now in
    let e = c.args.entry in
    let v = self.even in
    let j = c.insert.ensures in
    let k = c.remove.ensures in
    let il = j.len in
    let rl = k.len in
    let es = written_one self.entries c.as_mut_slice.result.now c.args.place e c.as_mut_slice.ensures.value in
    let fs = written_as entry_of self.entries c.as_mut_slice.result.now c.args.place e c.as_mut_slice.ensures.value in
    let same : length (hints_of c.insert.new.self) ≡ length self.entries = omega arith in
    let there = subst (λ h. hinted h c.args.place (hints_of c.insert.new.self) ≡ true) c.hash.ensures j.there in
    let long = ap length es ∙ length-set self.entries c.args.place e in
    let f = self.few in
    record { few = omega arith; apart = ap one_a_key fs ∙ one_ousted rules (entry_of e) (entries_of self) self.apart c.requires.0 c.args.place c.requires.1; covered = subst (Covers (hints_of c.insert.new.self)) (sym fs) (covers_set (hints_of self.index) (hints_of c.insert.new.self) (entries_of self) (entry_of e) self.covered c.args.place (λ h i a b. j.others h i (k.others h i a b)) there); even = same ∙ sym long }

pub remove-requires : goal.remove-requires
remove-requires c =
    let self = c.args.self.now in
    (hash_for (get_or (entries_of self) c.args.place nobody), self.covered c.args.place c.requires.1)

pub returns : goal.returns
returns c = written_as entry_of c.args.self.now.entries c.as_mut_slice.result.now c.args.place c.args.entry c.as_mut_slice.ensures.value
