use Rattle.std.proofs.Common.{◌≡◌, map, length, inl, inr, vec_items, sym, ap, ◌∙◌, rules, arith}
use Rattle.std.specs.Vec.Iter.{into_iter_items, into_iter_len}
use Rattle.std.proofs.lemmas.List.{nil_from_length}
use Rattle.std.proofs.lemmas.Result.{err_from_is_err_and}
use Rattle.records.specs.Sets.{set_of}
use Rattle.zones.specs.Zones.{zone_of}
use Rattle.transfers.proofs.Putting.{none_put, one_put, one_refused, all_put}
use Rattle.transfers.proofs.joining.taking.put_all.Goals as goal

pub returns-in_err-reserve : goal.returns-in_err-reserve
returns-in_err-reserve c =
    let p = err_from_is_err_and c.from_residual.result c.from_residual.ensures.1 in
    rw (p.1, p.2) (inr (c.in_err-reserve.ensures.room, c.in_err-reserve.ensures.same))

pub loop-set-init : goal.loop-set-init
loop-set-init c =
    let items : into_iter_items c.into_iter-set-iterator.result ≡ vec_items c.args.sets = search rules in
    let count : into_iter_len c.into_iter-set-iterator.result ≡ length (vec_items c.args.sets) = search rules in
    let h = c.in_ok-reserve.ensures in
    let l = c.len.ensures in
    record {
      putting = none_put (zone_of c.args.zone.now) (zone_of c.reserve.new.self) h.same (map set_of (vec_items c.args.sets)) (map set_of (into_iter_items c.into_iter-set-iterator.result)) (ap (map set_of) items);
      room = omega (arith, h.room, l, c.into_iter-set-iterator.ensures.into_iter_gives.1);
      counted = count ∙ sym (ap length items);
    }

pub loop-set-preserved : goal.loop-set-preserved
loop-set-preserved c =
    let n = c.in-Some.ensures.steps in
    let h = c.in_ok-insert.ensures.inserts in
    let i = c.loop-set.invariant.counted in
    let l = ap length n.0 in
    record {
      putting = one_put (zone_of c.args.zone.now) (zone_of c.loop-set.zone) (zone_of c.insert.new.self) (map set_of (vec_items c.args.sets)) (set_of c.in-Some.set) (map set_of (into_iter_items c.loop-set.set-iterator)) (map set_of (into_iter_items c.next.new.self)) h.0 (ap (map set_of) n.0) h.1 h.2 c.loop-set.invariant.putting;
      room = omega (arith, c.loop-set.invariant.room, c.insert.ensures.room, n.1);
      counted = omega arith;
    }

pub returns-in_err-insert : goal.returns-in_err-insert
returns-in_err-insert c =
    let n = c.in-Some.ensures.steps in
    let p = err_from_is_err_and c.from_residual-in_err-insert.result c.from_residual-in_err-insert.ensures.1 in
    let i = c.loop-set.invariant.putting in
    let z = zone_of c.args.zone.now in
    let y = zone_of c.loop-set.zone in
    let h = c.in_err-insert.ensures.succeeds (omega (arith, c.loop-set.invariant.room, n.1)) in
    rw (p.1, p.2) (inl (one_refused z y (map set_of (vec_items c.args.sets)) (set_of c.in-Some.set) (map set_of (into_iter_items c.loop-set.set-iterator)) (map set_of (into_iter_items c.next.new.self)) c.in_err-insert.field-0.0 (ap (map set_of) n.0) h i))

pub returns : goal.returns
returns c =
    let n = c.in-None.ensures.steps in
    let i = c.loop-set.invariant in
    let k = i.counted in
    let z = zone_of c.args.zone.now in
    let y = zone_of c.loop-set.zone in
    let none : length (into_iter_items c.loop-set.set-iterator) ≡ 0 = omega arith in
    (y.sets, all_put z y (map set_of (vec_items c.args.sets)) (map set_of (into_iter_items c.loop-set.set-iterator)) (ap (map set_of) (nil_from_length (into_iter_items c.loop-set.set-iterator) none)) i.putting, i.putting.same)
