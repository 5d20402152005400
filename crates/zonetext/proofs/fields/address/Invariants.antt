use Rattle.zonetext.proofs.Hexadecimal.{Filling}
use Rattle.zonetext.proofs.fields.address.Given as goal

abbrev pub invariant-loop-i : goal.invariant-loop-i
invariant-loop-i l = Filling l.word l.slot-items l.i
