use Rattle.std.proofs.Common.{◌≡◌, true, vec_items}
use Rattle.names.specs.Iterating.{labels_ahead}
use Rattle.names.specs.Labels.{proper_labels}
use Rattle.names.specs.Names.{labels}
use Rattle.names.proofs.Appending.{Written}
use Rattle.names.proofs.name.Name.append_wire.Given as goal

abbrev pub invariant-loop-label : goal.invariant-loop-label
invariant-loop-label l = (proper_labels (labels_ahead l.label-iterator) ≡ true) × Written (vec_items l.initial.out) (vec_items l.out) (labels l.self) (labels_ahead l.label-iterator)
