use Rattle.std.proofs.Common.{◌≡◌, None, sym, ap, ◌∙◌, arith, rules}
use Rattle.std.specs.Option.{option_map}
use Rattle.std.proofs.lemmas.List.{length-set}
use Rattle.records.specs.Contents.{bytes_of}
use Rattle.zonetext.specs.Fields.{address_of}
use Rattle.zonetext.specs.Readings.{piece_of}
use Rattle.zonetext.proofs.Hexadecimal.{one_filled, bad_filled, all_filled, address_word}
use Rattle.zonetext.proofs.fields.address.Goals as goal

pub returns-in_err-slot : goal.returns-in_err-slot
returns-in_err-slot c =
    let word = c.in-Word.word.now in
    let none : c.from_residual.result ≡ None = search rules in
    let room = c.loop-i.invariant.room in
    ap (option_map bytes_of) none
    ∙ sym (ap (λ p. address_of (piece_of p)) c.in-Word.is ∙ address_word word None (omega arith) (bad_filled word c.loop-i.slot-items c.loop-i.i c.loop-i.invariant (omega arith) (omega arith) c.in_err-slot.ensures))

pub loop-i-preserved : goal.loop-i-preserved
loop-i-preserved c =
    let word = c.in-Word.word.now in
    let room = c.loop-i.invariant.room in
    record { so_far = one_filled word c.loop-i.slot-items c.loop-i.i c.in_ok-slot.field-0 c.loop-i.invariant (omega arith) (omega arith) c.in_ok-slot.ensures; room = length-set c.loop-i.slot-items c.loop-i.i c.in_ok-slot.field-0 ∙ room }

pub returns : goal.returns
returns c =
    let word = c.in-Word.word.now in
    let room = c.loop-i.invariant.room in
    sym (ap (λ p. address_of (piece_of p)) c.in-Word.is ∙ address_word word _ (omega arith) (all_filled word c.loop-i.slot-items c.loop-i.i c.loop-i.invariant (omega arith) (omega arith)))
