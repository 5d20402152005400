use Rattle.std.proofs.Common.{length, sym, ◌∙◌, arith}
use Rattle.std.proofs.lemmas.Bool.{eqb-true, eqb-false}
use Rattle.lines.proofs.Numbers.{none_read, stops, goes_on_lem, all_read, no_number}
use Rattle.lines.proofs.number.Goals as goal

pub returns-then-is_empty : goal.returns-then-is_empty
returns-then-is_empty c = no_number c.args.word.now (eqb-true _ 0 (sym c.if-is_empty.ensures))

pub returns-in_err-value : goal.returns-in_err-value
returns-in_err-value c =
    c.from_residual.ensures ∙ stops c.args.word.now c.loop-b.value c.loop-b.b-index c.loop-b.invariant c.loop-b-test.true (sym c.in_err-value.ensures)

pub loop-b-preserved : goal.loop-b-preserved
loop-b-preserved c =
    goes_on_lem c.args.word.now c.loop-b.value c.loop-b.b-index c.loop-b.invariant c.loop-b-test.true c.in_ok-value.value (sym c.in_ok-value.ensures)

pub returns : goal.returns
returns c =
    let some = eqb-false (length c.args.word.now) 0 (sym c.if-is_empty.ensures) in
    all_read c.args.word.now c.loop-b.value c.loop-b.b-index c.loop-b.invariant c.loop-b-test.false (omega arith)
