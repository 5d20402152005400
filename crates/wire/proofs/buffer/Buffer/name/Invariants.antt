use Rattle.std.proofs.Common.{◌≡◌, true}
use Rattle.names.specs.Iterating.{labels_ahead}
use Rattle.names.specs.Labels.{proper_labels}
use Rattle.names.specs.Names.{labels}
use Rattle.wire.specs.Given.{written}
use Rattle.wire.proofs.Putting.{Listing}
use Rattle.wire.proofs.buffer.Buffer.name.Given as goal

abbrev pub invariant-loop-label : goal.invariant-loop-label
invariant-loop-label l = record { short : proper_labels (labels_ahead l.label-iterator) ≡ true; put : Listing (written l.fn.self) (written l.self) (labels l.name) (labels_ahead l.label-iterator) }
