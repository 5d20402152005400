use Rattle.std.proofs.Common.{[], inl, inr, map, Ok, Err, vec_items, refl, sym, ap, ◌∙◌, rules, arith}
use Rattle.std.proofs.lemmas.Result.{err_from_is_err_and}
use Rattle.names.specs.Names.{labels}
use Rattle.records.specs.Sets.{set_of}
use Rattle.wire.specs.Heads.{part_of}
use Rattle.zones.specs.Zones.{zone_of}
use Rattle.transfers.specs.Joining.{insert_all, is_there, absent, none_there}
use Rattle.transfers.specs.Joinings.{joining_from, joining_of}
use Rattle.transfers.proofs.Taking.{none_yet, all_absent, not_yet, first_refused, first_of_many, first_uncounted, at_first, judged_at, first_put, first_failed}
use Rattle.transfers.proofs.joining.Joining.begin.Goals as goal

pub returns-in_err-check_alone : goal.returns-in_err-check_alone
returns-in_err-check_alone c =
    let apex = labels c.args.apex in
    let r = err_from_is_err_and c.from_residual.result c.from_residual.ensures.1 in
    let p = part_of c.args.part in
    let slice = ap (map set_of) c.as_slice.ensures.value in
    rw (r.1, r.2) (inl (first_refused apex p c.in_err-check_alone.field-0.0 (judged_at apex apex [] (map set_of c.as_slice.result.now) p.sets (Err c.in_err-check_alone.field-0.0) refl slice c.in_err-check_alone.ensures)))

pub returns-then-of-gt-MAX_SETS : goal.returns-then-of-gt-MAX_SETS
returns-then-of-gt-MAX_SETS c =
    let apex = labels c.args.apex in
    let p = part_of c.args.part in
    let slice = ap (map set_of) c.as_slice.ensures.value in
    let of = c.from-of.ensures in
    inl (first_of_many apex p (insert_all (map set_of c.as_slice.result.now) []) (judged_at apex apex [] (map set_of c.as_slice.result.now) p.sets (Ok (insert_all (map set_of c.as_slice.result.now) [])) refl slice c.in_ok-check_alone.ensures) (omega arith))

pub returns-then-not-is_counted : goal.returns-then-not-is_counted
returns-then-not-is_counted c =
    let apex = labels c.args.apex in
    let p = part_of c.args.part in
    let slice = ap (map set_of) c.as_slice.ensures.value in
    let of = c.from-of.ensures in
    inl (first_uncounted apex p (insert_all (map set_of c.as_slice.result.now) []) (judged_at apex apex [] (map set_of c.as_slice.result.now) p.sets (Ok (insert_all (map set_of c.as_slice.result.now) [])) refl slice c.in_ok-check_alone.ensures) (omega arith) (search rules))

pub invariant_of-joining : goal.invariant_of-joining
invariant_of-joining c =
    let items = c.in_ok-vec.ensures.items_if_clones_equal (λ y e. e) in
    record { counted = sym (ap absent (items ∙ none_yet c.from-of.result) ∙ all_absent c.from-of.result) }

pub put-requires-clause-fresh : goal.put-requires-clause-fresh
put-requires-clause-fresh c =
    let items = c.in_ok-vec.ensures.items_if_clones_equal (λ y e. e) in
    ap (λ bs. is_there bs c.args.part.head.part) (items ∙ none_yet c.from-of.result) ∙ not_yet c.from-of.result c.args.part.head.part

pub returns-in_err-put : goal.returns-in_err-put
returns-in_err-put c =
    let apex = labels c.args.apex in
    let p = part_of c.args.part in
    let slice = ap (map set_of) c.as_slice.ensures.value in
    let items = c.in_ok-vec.ensures.items_if_clones_equal (λ y e. e) in
    let bs = vec_items c.in_ok-vec.field-0 in
    let new = at_first apex p (zone_of c.new.result) bs c.new.ensures (items ∙ none_yet c.from-of.result ∙ ap none_there c.from-of.ensures) in
    let r = err_from_is_err_and c.from_residual-in_err-put.result c.from_residual-in_err-put.ensures.1 in
    let alone = judged_at apex apex [] (map set_of c.as_slice.result.now) p.sets (Ok (insert_all (map set_of c.as_slice.result.now) [])) refl slice c.in_ok-check_alone.ensures in
    let h = c.in_err-put.ensures in
    rw (r.1, r.2) (inr (first_failed apex p (joining_from (zone_of c.new.result) p.head.moment bs) (joining_of c.put.new.self) (insert_all (map set_of c.as_slice.result.now) []) new alone c.in_err-put.field-0.0 h))

pub returns : goal.returns
returns c =
    let apex = labels c.args.apex in
    let p = part_of c.args.part in
    let slice = ap (map set_of) c.as_slice.ensures.value in
    let of = c.from-of.ensures in
    let items = c.in_ok-vec.ensures.items_if_clones_equal (λ y e. e) in
    let bs = vec_items c.in_ok-vec.field-0 in
    let new = at_first apex p (zone_of c.new.result) bs c.new.ensures (items ∙ none_yet c.from-of.result ∙ ap none_there c.from-of.ensures) in
    let alone = judged_at apex apex [] (map set_of c.as_slice.result.now) p.sets (Ok (insert_all (map set_of c.as_slice.result.now) [])) refl slice c.in_ok-check_alone.ensures in
    let h = c.in_ok-put.ensures in
    first_put apex p (joining_from (zone_of c.new.result) p.head.moment bs) (joining_of c.put.new.self) (insert_all (map set_of c.as_slice.result.now) []) new alone h.0 (omega arith) (search rules) h.1 h.2
