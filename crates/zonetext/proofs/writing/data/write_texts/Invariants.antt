use Rattle.std.proofs.Common.{map, vec_items}
use Rattle.zonetext.specs.Division.{Text}
use Rattle.zonetext.specs.Written.{pieces_text, holds_text}
use Rattle.zonetext.proofs.Appending.{Upto, Held}
use Rattle.zonetext.proofs.writing.data.write_texts.Given as goal

abbrev pub invariant-loop-text : goal.invariant-loop-text
invariant-loop-text l = record {
  done : Upto (λ xs. pieces_text (map Text (map vec_items xs))) l.texts (vec_items l.initial.out) (vec_items l.out) l.text-index;
  held : Held holds_text vec_items l.texts l.text-index;
}
