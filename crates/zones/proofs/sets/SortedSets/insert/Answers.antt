use Rattle.std.proofs.Common.{map, length, is_ok, vec_items, sym, ap, ◌∙◌, arith}
use lib.ListN.{length-map}
use Rattle.std.proofs.lemmas.Bool.{cond-true}
use Rattle.std.specs.List.{insert}
use Rattle.names.specs.Names.{labels}
use Rattle.records.specs.Sets.{set_of}
use Rattle.zones.specs.Sorted.{sorted, all_within}
use Rattle.zones.specs.Zones.{sets_of}
use Rattle.zones.proofs.Added.{new_so, pushed, put_in, still_marked}
use Rattle.zones.proofs.Insert.{insert_sorted, insert_within}
use Rattle.zones.proofs.Places.{place_within, fronts_many}
use Rattle.zones.proofs.sets.SortedSets.insert.Goals as goal

pub invariant_of-self : goal.invariant_of-self
invariant_of-self c =
    let s = c.args.self.now in
    let xs = vec_items s.sets in
    let x = c.args.set in
    let a = labels s.apex in
    let at = c.args.to.at in
    let end = c.if-to-len.true ∙ c.len.ensures ∙ s.sets.ok.0 in
    let items = c.push_reserved.ensures.items ∙ pushed xs at x end in
    let fronts = c.push_reserved-then-to-len.ensures.items ∙ pushed (vec_items s.fronts) at c.args.to.front (end ∙ sym (fronts_many set_of xs (vec_items s.fronts) (length a) s.marked)) in
    let is = ap (map set_of) items ∙ put_in set_of xs x at c.requires.at in
    record {
      ordered = ap sorted is ∙ insert_sorted (set_of x) (sets_of s) s.ordered (new_so (sets_of s) (set_of x) c.requires.fresh);
      inside = ap (all_within a) is ∙ insert_within a (set_of x) (sets_of s) c.requires.inside s.inside;
      marked = still_marked set_of xs x (length a) at c.args.to.front (vec_items s.fronts) (vec_items c.push_reserved-then-to-len.new.self) (vec_items c.push_reserved.new.self) s.marked c.requires.front items fronts;
    }

pub returns-then-to-len-clause-sets : goal.returns-then-to-len-clause-sets
returns-then-to-len-clause-sets c =
    let s = c.args.self.now in
    let xs = vec_items s.sets in
    ap (map set_of) (c.push_reserved.ensures.items ∙ pushed xs c.args.to.at c.args.set (c.if-to-len.true ∙ c.len.ensures ∙ s.sets.ok.0)) ∙ put_in set_of xs c.args.set c.args.to.at c.requires.at

pub insert-requires : goal.insert-requires
insert-requires c =
    let s = c.args.self.now in
    let x = set_of c.args.set in
    let w = place_within x.name x.kind (sets_of s) in
    let p = c.requires.at in
    let m = length-map (vec_items s.sets) set_of in
    let l = s.sets.ok.0 in
    omega arith

pub insert-requires-2 : goal.insert-requires-2
insert-requires-2 c =
    let s = c.args.self.now in
    let x = set_of c.args.set in
    let w = place_within x.name x.kind (sets_of s) in
    let p = c.requires.at in
    let m = length-map (vec_items s.sets) set_of in
    let f = fronts_many set_of (vec_items s.sets) (vec_items s.fronts) (length (labels s.apex)) s.marked in
    let l = s.fronts.ok.0 in
    omega arith

pub invariant_of-self-2 : goal.invariant_of-self-2
invariant_of-self-2 c =
    let s = c.args.self.now in
    let xs = vec_items s.sets in
    let fs = vec_items s.fronts in
    let x = c.args.set in
    let a = labels s.apex in
    let at = c.args.to.at in
    let items = c.insert.ensures.items ∙ cond-true (is_ok c.insert.result) (insert xs at x) xs (c.insert.ensures.succeeds (omega (arith, c.requires.room))) in
    let fronts = c.insert-2.ensures.items ∙ cond-true (is_ok c.insert-2.result) (insert fs at c.args.to.front) fs (c.insert-2.ensures.succeeds (omega (arith, c.requires.room))) in
    let is = ap (map set_of) items ∙ put_in set_of xs x at c.requires.at in
    record {
      ordered = ap sorted is ∙ insert_sorted (set_of x) (sets_of s) s.ordered (new_so (sets_of s) (set_of x) c.requires.fresh);
      inside = ap (all_within a) is ∙ insert_within a (set_of x) (sets_of s) c.requires.inside s.inside;
      marked = still_marked set_of xs x (length a) at c.args.to.front fs (vec_items c.insert-2.new.self) (vec_items c.insert.new.self) s.marked c.requires.front items fronts;
    }

pub returns-clause-sets : goal.returns-clause-sets
returns-clause-sets c =
    let s = c.args.self.now in
    let xs = vec_items s.sets in
    ap (map set_of) (c.insert.ensures.items ∙ cond-true (is_ok c.insert.result) (insert xs c.args.to.at c.args.set) xs (c.insert.ensures.succeeds (omega (arith, c.requires.room)))) ∙ put_in set_of xs c.args.set c.args.to.at c.requires.at
