use Rattle.std.proofs.Common.{◌<◌, length, sym, ap, ◌∙◌, subst, length-set, arith, rules}
use lib.ListN.{length-map}
use Rattle.bounded.proofs.Writing.{written_one, written_as}
use Rattle.machine.specs.Store.{one_a_key}
use Rattle.cache.specs.Entries.{entry_of}
use Rattle.cache.specs.Entries.{rules as times}
use Rattle.cache.specs.Caches.{entries_of}
use Rattle.cache.specs.Hints.{Covers}
use Rattle.cache.specs.Indexes.{hints_of}
use Rattle.cache.proofs.Covering.{covers_replaced}
use Rattle.cache.proofs.Storing.{place_within, one_replaced}
use Rattle.cache.proofs.store.Cache.replace.Goals as goal

within : (c : goal.After-as_mut_slice) → c.args.place < length c.as_mut_slice.result.now
within c =
    let self = c.args.self.now in
    let m = length-map self.entries entry_of in
    let w = place_within times (entry_of c.args.entry) (entries_of self) self.apart c.args.place c.requires in
    let e = ap length c.as_mut_slice.ensures.value in
    omega arith

pub offset_bounds-as_mut_slice-place : goal.offset_bounds-as_mut_slice-place
offset_bounds-as_mut_slice-place c = let w = within c in search rules

pub bounds-as_mut_slice-place : goal.bounds-as_mut_slice-place
bounds-as_mut_slice-place c = within c

pub invariant_of-self : goal.invariant_of-self
invariant_of-self c =
    let self = c.args.self.now in
    let e = c.args.entry in
    let es = written_one self.entries c.as_mut_slice.result.now c.args.place e c.as_mut_slice.ensures.value in
    let fs = written_as entry_of self.entries c.as_mut_slice.result.now c.args.place e c.as_mut_slice.ensures.value in
    let long = ap length es ∙ length-set self.entries c.args.place e in
    let f = self.few in
    record { few = omega arith; apart = ap one_a_key fs ∙ one_replaced times (entry_of e) (entries_of self) self.apart c.args.place c.requires; covered = subst (Covers (hints_of self.index)) (sym fs) (covers_replaced (hints_of self.index) (entries_of self) (entry_of e) c.args.place self.covered self.apart c.requires); even = self.even ∙ sym long }

pub returns : goal.returns
returns c = written_as entry_of c.args.self.now.entries c.as_mut_slice.result.now c.args.place c.args.entry c.as_mut_slice.ensures.value
