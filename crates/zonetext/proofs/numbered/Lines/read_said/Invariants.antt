use Rattle.std.proofs.Common.{◌≡◌, ◌≤◌, length}
use Rattle.zonetext.specs.Numbered.{said_left, end_of}
use Rattle.zonetext.proofs.numbered.Lines.read_said.Given as goal

abbrev pub invariant-loop-number : goal.invariant-loop-number
invariant-loop-number l = (said_left l.self ≡ said_left l.initial.self) × (end_of l.self ≡ end_of l.initial.self) × (length l.self.rest.now ≤ length l.initial.self.rest.now)

abbrev pub decreases-loop-number : goal.decreases-loop-number
decreases-loop-number l = length l.self.rest.now
