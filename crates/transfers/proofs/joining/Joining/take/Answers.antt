use Rattle.std.proofs.Common.{[], inl, map, Ok, Err, refl, ap, rules}
use Rattle.std.proofs.lemmas.Result.{err_from_is_err_and}
use Rattle.names.specs.Names.{labels}
use Rattle.records.specs.Sets.{set_of}
use Rattle.wire.specs.Heads.{part_of}
use Rattle.transfers.specs.Joining.{insert_all}
use Rattle.transfers.specs.Joinings.{joining_of}
use Rattle.transfers.proofs.Taking.{strange, strange_refused, taken_refused, judged_as, judged_at, by_judging, by_putting}
use Rattle.transfers.proofs.joining.Joining.take.Goals as goal

pub returns-in_err-check_alone : goal.returns-in_err-check_alone
returns-in_err-check_alone c =
    let j = joining_of c.args.self.now in
    let p = part_of c.args.part in
    let r = err_from_is_err_and c.from_residual.result c.from_residual.ensures.1 in
    let slice = ap (map set_of) c.as_slice-sets.ensures.value in
    rw (r.1, r.2) (inl (strange_refused p j c.in_err-check_alone.field-0.0 (search rules) (judged_at (labels c.apex.result.now) j.apex [] (map set_of c.as_slice-sets.result.now) p.sets (Err c.in_err-check_alone.field-0.0) c.apex.ensures slice c.in_err-check_alone.ensures)), refl)

pub returns-then-not-is_of_same : goal.returns-then-not-is_of_same
returns-then-not-is_of_same c =
    let j = joining_of c.args.self.now in
    let p = part_of c.args.part in
    let slice = ap (map set_of) c.as_slice-sets.ensures.value in
    (inl (strange p j (insert_all (map set_of c.as_slice-sets.result.now) []) (search rules) (judged_at (labels c.apex.result.now) j.apex [] (map set_of c.as_slice-sets.result.now) p.sets (Ok (insert_all (map set_of c.as_slice-sets.result.now) [])) c.apex.ensures slice c.in_ok-check_alone.ensures)), refl)

pub returns-then-is_there : goal.returns-then-is_there
returns-then-is_there c =
    let j = joining_of c.args.self.now in
    let p = part_of c.args.part in
    by_judging p j c.check_alone-then-is_there.result (search rules) (search rules)
    (judged_as (labels c.apex-then-is_there.result.now) j.apex [] (map set_of c.as_slice-sets.result.now) p.sets c.check_alone-then-is_there.result c.apex-then-is_there.ensures (ap (map set_of) c.as_slice-sets.ensures.value) c.check_alone-then-is_there.ensures)

pub returns-in_err-check_beside : goal.returns-in_err-check_beside
returns-in_err-check_beside c =
    let j = joining_of c.args.self.now in
    let p = part_of c.args.part in
    let r = err_from_is_err_and c.from_residual-in_err-check_beside.result c.from_residual-in_err-check_beside.ensures.1 in
    let slice = ap (map set_of) c.as_slice-sets.ensures.value in
    rw (r.1, r.2) (inl (taken_refused p j c.in_err-check_beside.field-0.0 (search rules) (search rules) (judged_at j.apex j.apex j.sets (map set_of c.as_slice-sets.result.now) p.sets (Err c.in_err-check_beside.field-0.0) refl slice c.in_err-check_beside.ensures)), refl)

pub returns : goal.returns
returns c =
    let j = joining_of c.args.self.now in
    let p = part_of c.args.part in
    let slice = ap (map set_of) c.as_slice-sets.ensures.value in
    by_putting p j (joining_of c.put.new.self) (insert_all (map set_of c.as_slice-sets.result.now) j.sets) (judged_at j.apex j.apex j.sets (map set_of c.as_slice-sets.result.now) p.sets (Ok (insert_all (map set_of c.as_slice-sets.result.now) j.sets)) refl slice c.in_ok-check_beside.ensures) c.put.result (search rules) (search rules) c.put.ensures
