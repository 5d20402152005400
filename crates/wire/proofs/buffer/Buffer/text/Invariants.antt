use Rattle.std.specs.Iterator.Adapters.{rev_source}
use Rattle.names.specs.Iterating.{labels_ahead}
use Rattle.names.specs.Names.{labels}
use Rattle.wire.specs.Given.{written}
use Rattle.wire.proofs.Texting.{Texting}
use Rattle.wire.proofs.buffer.Buffer.text.Given as goal

abbrev pub invariant-loop-label : goal.invariant-loop-label
invariant-loop-label l = Texting (written l.fn.self) (written l.self) (labels l.name) (labels_ahead (rev_source l.label-iterator))
