-- What an `Index` holds.
use Rattle.std.specs.Prelude.{List}
use Rattle.cache.specs.declared.index.Hint.{Hint}
use Rattle.cache.specs.declared.index.Index.{Index}

abbrev pub hints_of : Index → List Hint
hints_of x = x.hints
