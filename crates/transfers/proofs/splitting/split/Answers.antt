use Rattle.std.proofs.Common.{◌≡◌, ◌+◌, ◌++◌, [], ◌∷◌, List, Bor, map, length, vec_items, sym, ap, subst, ◌∙◌, arith, rules}
use lib.ListN.{length-map}
use Rattle.std.proofs.lemmas.List.{map-append}
use Rattle.records.specs.Sets.{set_of}
use Rattle.zones.specs.Zones.{zone_of}
use Rattle.records.specs.declared.set.RecordSet.{RecordSet}
use Rattle.wire.specs.Parts.{Part, head_keeps}
use Rattle.wire.specs.Shapes.{Head}
use Rattle.wire.specs.Heads.{head_of}
use Rattle.transfers.specs.Splitting.{rows, EachFits, part_from, parts_from}
use Rattle.transfers.specs.Sent.{part_of}
use Rattle.transfers.proofs.Rows.{few_sets, rows_limited}
use Rattle.transfers.proofs.Parting.{version, short_part, kept_part}
use Rattle.transfers.proofs.Numbering.{none_numbered, one_numbered, all_numbered}
use Rattle.transfers.proofs.splitting.split.Goals as goal

pub overflow_cast-len : goal.overflow_cast-len
overflow_cast-len c =
    let z = zone_of c.args.zone.now in
    let few = rows_limited z.apex z.sets c.args.zone.now.limited in
    let n = ap length (c.in_ok-rows.ensures.value ∙ ap rows c.sets.ensures) in
    let m = length-map (vec_items c.in_ok-rows.rows) (λ r. map set_of r.now) in
    let l = c.len.ensures in
    omega arith

pub loop-row-init : goal.loop-row-init
loop-row-init c =
    let z = zone_of c.args.zone.now in
    let n = c.len.ensures in
    let m = c.as_slice-row-items.ensures.len in
    record {
      all = ap (map (λ r. map set_of r.now)) c.as_slice-row-items.ensures.value ∙ c.in_ok-rows.ensures.value ∙ ap rows c.sets.ensures;
      head = c.head_before-head.ensures.value ∙ ap (λ n. (part_from z c.args.id.0 c.args.moment.0 n 0 []).head) (omega arith);
      done = none_numbered (λ r. map set_of r.now) c.as_slice-row-items.result.now z _ _ _ _ (ap (map part_of) c.in_ok-parts.ensures.items);
    }

pub overflow_add-head : goal.overflow_add-head
overflow_add-head c =
    let z = zone_of c.args.zone.now in
    let few = rows_limited z.apex z.sets c.args.zone.now.limited in
    let n = ap length c.loop-row.invariant.all in
    let m = length-map c.as_slice-row-items.result.now (λ r. map set_of r.now) in
    let p = ap (λ (h : Head). h.part) c.loop-row.invariant.head in
    let t = c.loop-row-test.true in
    omega arith

pub loop-row-preserved : goal.loop-row-preserved
loop-row-preserved c =
    let g = λ (r : Bor (List RecordSet)). map set_of r.now in
    let head = ap (λ (h : Head). record h { part = h.part + 1 }) c.loop-row.invariant.head in
    let part : Part = record { head = record (head_of c.loop-row.head) { part = c.loop-row.head.part + 1 }; sets = map set_of c.row-item.result.now } in
    let more : map part_of (vec_items c.push.new.self) ≡ map part_of (vec_items c.loop-row.parts) ++ part ∷ [] = search (rules, map-append) in
    record {
      all = c.loop-row.invariant.all;
      head = head;
      done =
          one_numbered g c.as_slice-row-items.result.now _ _ _ _ _ _ c.loop-row.row-index c.row-item.result c.loop-row.invariant.done c.loop-row-test.true c.row-item.is
          (more ∙ ap (λ (h : Head). map part_of (vec_items c.loop-row.parts) ++ record { head = h; sets = map set_of c.row-item.result.now } ∷ []) head);
    }

pub returns-clause-value : goal.returns-clause-value
returns-clause-value c =
    let z = zone_of c.args.zone.now in
    let all = c.loop-row.invariant.all in
    let m = length-map c.as_slice-row-items.result.now (λ r. map set_of r.now) in
    all_numbered (λ r. map set_of r.now) c.as_slice-row-items.result.now z _ _ _ _ _ c.loop-row.invariant.done c.loop-row-test.false
    ∙ (λ i. parts_from z c.args.id.0 c.args.moment.0 ((sym m ∙ ap length all) i) 1 (all i))

pub returns-clause-alone : goal.returns-clause-alone
returns-clause-alone c = subst EachFits c.sets.ensures c.in_ok-rows.ensures.alone

pub returns-clause-short : goal.returns-clause-short
returns-clause-short c = short_part (zone_of c.args.zone.now) c.args.id.0 c.args.moment.0 (subst EachFits c.sets.ensures c.in_ok-rows.ensures.alone)

pub returns-clause-keeps : goal.returns-clause-keeps
returns-clause-keeps c =
    let z = zone_of c.args.zone.now in
    let h = (part_from z c.args.id.0 c.args.moment.0 c.len.result 0 []).head in
    kept_part z c.args.id.0 c.args.moment.0 (subst EachFits c.sets.ensures c.in_ok-rows.ensures.alone) (version h (ap head_keeps (sym c.head_before-head.ensures.value) ∙ c.head_before-head.ensures.kept)) (few_sets z.apex z.sets c.args.zone.now.limited)
