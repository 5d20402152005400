use Rattle.std.proofs.Common.{◌≡◌}
use Rattle.names.specs.Iterating.{labels_ahead}
use Rattle.names.specs.Names.{labels}
use Rattle.cache.specs.Hashes.{stirred_name}
use Rattle.cache.proofs.entry.hash.stir_name.Given as goal

abbrev pub invariant-loop-label : goal.invariant-loop-label
invariant-loop-label l = stirred_name l.hash (labels_ahead l.label-iterator) ≡ stirred_name l.start (labels l.name)
