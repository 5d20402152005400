-- What an iterator over labels has left.
use Rattle.std.specs.Prelude.{ℕ, List}
use Rattle.std.specs.List.{between}
use Rattle.names.specs.Names.{labels}
use Rattle.names.specs.declared.name.iter.Labels.{Labels}

unfoldable pub labels_ahead : Labels → List (List ℕ)
labels_ahead l = between l.depths.start l.depths.end (labels l.name.now)
