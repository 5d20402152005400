use Rattle.std.proofs.Common.{◌≡◌, ◌+◌, true, false, not, ◌&&◌, eqb, get_or, refl, sym, subst, arith}
use Rattle.std.proofs.lemmas.Bool.Decides.{nat_tests}
use Rattle.zonetext.specs.Division.{quoted_after}
use Rattle.zonetext.proofs.Dividing.{Reading, plain_line, one_read, stopped, all_read}
use Rattle.zonetext.proofs.division.read_part.Goals as goal
use Rattle.zonetext.proofs.division.read_part.Goals.{else-b-eq59-via-then-b-eq59+else-not-quoted, else-b-eq59-via-else-b-eq59, then-b-eq34, else-b-eq34}

pub returns-then-is_none : goal.returns-then-is_none
returns-then-is_none c = plain_line c.args.line.now c.memchr.result (c.if-is_none.ensures) c.memchr.ensures

pub returns-then-not-quoted : goal.returns-then-not-quoted
returns-then-not-quoted c =
    let ends : (not c.loop-i.quoted && eqb (get_or c.args.line.now c.loop-i.i 0) 59) ≡ true = grind (arith, nat_tests) in
    sym (stopped c.args.line.now c.loop-i.quoted c.loop-i.i (get_or c.args.line.now c.loop-i.i 0) c.loop-i.invariant c.loop-i-test.true refl ends)

pub loop-i-preserved : goal.loop-i-preserved
loop-i-preserved c =
    let b = get_or c.args.line.now c.loop-i.i 0 in
    let on : (not c.loop-i.quoted && eqb (get_or c.args.line.now c.loop-i.i 0) 59) ≡ false =
    elim c.else-b-eq59.branch [ else-b-eq59-via-then-b-eq59+else-not-quoted w ↦ grind (arith, nat_tests) | else-b-eq59-via-else-b-eq59 w ↦ grind (arith, nat_tests) ]
    in
    let after : quoted_after c.loop-i.quoted (get_or c.args.line.now c.loop-i.i 0) ≡ c.if-b-eq34.quoted =
    elim c.if-b-eq34.branch [ then-b-eq34 w ↦ grind (arith, nat_tests) | else-b-eq34 w ↦ grind (arith, nat_tests) ]
    in
    subst (λ q. Reading c.args.line.now q (c.loop-i.i + 1)) after (one_read c.args.line.now c.loop-i.quoted c.loop-i.i b c.loop-i.invariant c.loop-i-test.true refl on)

pub returns : goal.returns
returns c = sym (all_read c.args.line.now c.loop-i.quoted c.loop-i.i c.loop-i.invariant c.loop-i-test.false)
