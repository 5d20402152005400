use Rattle.zonetext.proofs.Dividing.{Reading}
use Rattle.zonetext.proofs.division.read_part.Given as goal

abbrev pub invariant-loop-i : goal.invariant-loop-i
invariant-loop-i l = Reading l.line l.quoted l.i
