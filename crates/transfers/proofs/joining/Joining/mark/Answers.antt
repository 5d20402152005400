use Rattle.std.proofs.Common.{◌-◌, true, set, vec_items, sym, ap, ◌∙◌, arith}
use Rattle.transfers.specs.Joining.{absent}
use Rattle.transfers.specs.Joinings.{joining_of, with_there}
use Rattle.transfers.proofs.Marks.{marks, fewer}
use Rattle.transfers.proofs.joining.Joining.mark.Goals as goal

pub overflow_sub-self : goal.overflow_sub-self
overflow_sub-self c =
    let j = c.args.self.now in
    let e = fewer (vec_items j.there) c.args.number c.requires.counted c.requires.inside c.requires.fresh in
    let k = j.counted in
    omega arith

pub invariant_of-self : goal.invariant_of-self
invariant_of-self c =
    let j = c.args.self.now in
    let e = fewer (vec_items j.there) c.args.number c.requires.counted c.requires.inside c.requires.fresh in
    let k = j.counted in
    let at = ap (λ n. absent (set (vec_items j.there) (n - 1) true)) c.from-at.ensures in
    record { counted = omega arith }

pub returns : goal.returns
returns c =
    let j = c.args.self.now in
    let bs = vec_items j.there in
    ap (with_there (joining_of j)) (ap (λ n. set bs (n - 1) true) c.from-at.ensures ∙ sym (marks bs c.args.number c.requires.counted))
