use Rattle.std.proofs.Common.{sym, arith, rules}
use Rattle.std.proofs.lemmas.Result.{err_from_is_err_and}
use Rattle.wire.proofs.Copying.{never_empty, cut_shorter}
use Rattle.wire.proofs.Naming.{none_named, one_named, bad_named, just_one, not_one}
use Rattle.wire.proofs.sets.alias.Goals as goal

pub returns-in_default : goal.returns-in_default
returns-in_default c = λ ps h. absurd (never_empty c.args.list.now ps (omega arith) h)

pub loop-piece-init : goal.loop-piece-init
loop-piece-init c = λ ps h. none_named c.args.list.now ps _ (omega arith) h c.root-name.ensures

pub loop-piece-preserved : goal.loop-piece-preserved
loop-piece-preserved c = λ ps h. one_named ps _ _ _ _ _ (c.loop-piece.invariant ps h) (sym c.in-Some.ensures) (sym c.in_ok-name.ensures)

pub loop-piece-smaller : goal.loop-piece-smaller
loop-piece-smaller c = cut_shorter _ _ _ (sym c.in-Some.ensures)

pub returns-in_err-name : goal.returns-in_err-name
returns-in_err-name c =
    let p = err_from_is_err_and c.from_residual.result c.from_residual.ensures.1 in
    λ ps h. rw (p.1, p.2) (sym (bad_named ps _ _ _ _ _ (c.loop-piece.invariant ps h) (sym c.in-Some.ensures) (sym c.in_err-name.ensures)))

pub returns-then-count-eq1 : goal.returns-then-count-eq1
returns-then-count-eq1 c = λ ps h. sym (just_one c.args.list.now ps _ _ (c.loop-piece.invariant ps h) (sym c.in_default-cut_piece.ensures) h (search rules))

pub returns-else-count-eq1 : goal.returns-else-count-eq1
returns-else-count-eq1 c = λ ps h. sym (not_one c.args.list.now ps _ _ (c.loop-piece.invariant ps h) (sym c.in_default-cut_piece.ensures) h (search rules))
