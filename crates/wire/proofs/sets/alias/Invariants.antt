use Rattle.std.proofs.Common.{◌≡◌, List, ℕ, length}
use Rattle.names.specs.Names.{labels}
use Rattle.names.specs.Wire.{wire}
use Rattle.wire.proofs.Naming.{Naming}
use Rattle.wire.proofs.sets.alias.Given as goal

abbrev pub invariant-loop-piece : goal.invariant-loop-piece
invariant-loop-piece l = (ps : List (List ℕ)) → l.fn.list ≡ wire ps → Naming ps (labels l.name) l.rest

abbrev pub decreases-loop-piece : goal.decreases-loop-piece
decreases-loop-piece l = length l.rest
