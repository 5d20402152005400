use Rattle.std.proofs.Common.{inl, inr, ⊎_elim, sym}
use Rattle.std.proofs.lemmas.Result.{err_from_is_err_and}
use Rattle.wire.proofs.Partly.{no_head, bad_sets, bad_head, whole_part}
use Rattle.wire.proofs.part.PartPacket.read.Goals as goal

pub returns-in_default : goal.returns-in_default
returns-in_default c = inl (no_head c.args.fields.now.rest.now c.in_default.ensures)

pub returns-in_err-sets : goal.returns-in_err-sets
returns-in_err-sets c =
    let p = err_from_is_err_and c.from_residual.result c.from_residual.ensures.1 in
    rw (p.1, p.2)
    (⊎_elim (λ d. inl (bad_sets c.args.fields.now.rest.now _ _ c.in-Some.ensures _ d)) (λ m. inr m) c.in_err-sets.ensures)

pub returns-in_err-head : goal.returns-in_err-head
returns-in_err-head c =
    let p = err_from_is_err_and c.from_residual-in_err-head.result c.from_residual-in_err-head.ensures.1 in
    rw (p.1, p.2) (inl (bad_head c.args.fields.now.rest.now _ _ c.in-Some.ensures _ _ c.in_ok-sets.ensures (sym c.in_err-head.ensures)))

pub returns : goal.returns
returns c = whole_part c.args.fields.now.rest.now _ _ c.in-Some.ensures _ _ c.in_ok-sets.ensures (sym c.in_ok-head.ensures)
