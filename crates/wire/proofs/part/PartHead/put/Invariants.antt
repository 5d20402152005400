use Rattle.wire.specs.Given.{written}
use Rattle.wire.proofs.Sending.{Sent}
use Rattle.wire.proofs.part.PartHead.put.Given as goal

abbrev pub invariant-loop-set : goal.invariant-loop-set
invariant-loop-set l = Sent l.self l.sets (written l.fn.out) (written l.out) l.set-index
