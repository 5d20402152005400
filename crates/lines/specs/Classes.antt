-- The words that a reader has still to hand on.
use Rattle.std.specs.Prelude.{ℕ, List}
use Rattle.lines.specs.declared.Words.{Words}
use Rattle.lines.specs.Lines.{words}

abbrev pub words_left : Words → List (List ℕ)
words_left w = words w.rest.now
