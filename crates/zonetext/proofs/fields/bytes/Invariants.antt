use Rattle.std.proofs.Common.{length, vec_items}
use Rattle.zonetext.proofs.Hexadecimal.{Reading}
use Rattle.zonetext.proofs.fields.bytes.Given as goal

abbrev pub invariant-loop-rest : goal.invariant-loop-rest
invariant-loop-rest l = Reading l.word (vec_items l.bytes) l.rest

abbrev pub decreases-loop-rest : goal.decreases-loop-rest
decreases-loop-rest l = length l.rest
