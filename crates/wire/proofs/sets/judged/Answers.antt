use Rattle.std.proofs.Common.{inl, inr, ⊎_elim, refl}
use Rattle.std.proofs.lemmas.Result.{err_from_is_err_and}
use Rattle.wire.specs.Cuts.{next}
use Rattle.wire.specs.Parts.{set_in}
use Rattle.wire.proofs.Naming.{set_reads}
use Rattle.wire.proofs.sets.judged.Goals as goal

pub returns-in_err-name : goal.returns-in_err-name
unfolding next set_in
returns-in_err-name c =
    let p = err_from_is_err_and c.from_residual.result c.from_residual.ensures.1 in
    λ ls ps e h. rw (p.1, p.2, ← e, c.in_err-name.was) (inl refl)

pub returns-in_err-kind : goal.returns-in_err-kind
unfolding next set_in
returns-in_err-kind c =
    let p = err_from_is_err_and c.from_residual-in_err-kind.result c.from_residual-in_err-kind.ensures.1 in
    λ ls ps e h. rw (p.1, p.2, ← e, c.in_ok-name.was, ← c.try_from.ensures, c.in_err-kind.was) (inl refl)

pub returns-in_err-data : goal.returns-in_err-data
unfolding next set_in
returns-in_err-data c =
    let p = err_from_is_err_and c.from_residual-in_err-data.result c.from_residual-in_err-data.ensures.1 in
    λ ls ps e h.
    rw (p.1, p.2, ← e, c.in_ok-name.was, ← c.try_from.ensures, c.in_ok-kind.was)
    (⊎_elim (λ d. inl (rw d)) (λ m. inr m) (c.in_err-data.ensures ps h))

pub returns : goal.returns
unfolding next set_in
returns c = λ ls ps e h. rw (← e, c.in_ok-name.was, ← c.try_from.ensures, c.in_ok-kind.was, c.in_ok-data.ensures ps h) (set_reads _ _ c.new.ensures)
