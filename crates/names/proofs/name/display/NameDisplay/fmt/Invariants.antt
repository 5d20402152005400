use Rattle.std.proofs.Common.{◌≡◌, true}
use Rattle.std.specs.Iterator.Adapters.{rev_source}
use Rattle.names.specs.Iterating.{labels_ahead}
use Rattle.names.specs.Labels.{proper_labels}
use Rattle.names.proofs.Writing.{Upto}
use Rattle.names.proofs.name.display.NameDisplay.fmt.Given as goal

abbrev pub invariant-loop-label : goal.invariant-loop-label
invariant-loop-label g l = (proper_labels (labels_ahead (rev_source l.label-iterator)) ≡ true) × Upto g.W.Write.write_str_gives l.initial.f (labels_ahead (rev_source l.initial.label-iterator)) l.f (labels_ahead (rev_source l.label-iterator))
