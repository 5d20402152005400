use Rattle.lines.proofs.Numbers.{Reading}
use Rattle.lines.proofs.number.Given as goal

abbrev pub invariant-loop-b : goal.invariant-loop-b
invariant-loop-b l = Reading l.word l.value l.b-index
