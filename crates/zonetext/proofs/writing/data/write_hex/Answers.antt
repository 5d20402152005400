use Rattle.std.proofs.Common.{◌≡◌, ◌/◌, ◌%◌, [], ◌∷◌, ◌++◌, get_or, vec_items, refl, rules}
use Rattle.zonetext.specs.Written.{hex_digit, hexadecimal}
use Rattle.zonetext.proofs.Appending.{one_more, all_done, two_digits, hex_none, hex_cons, digits_done}
use Rattle.zonetext.proofs.Goodness.{bytes_good}
use Rattle.zonetext.proofs.writing.data.write_hex.Goals as goal

pub loop-byte-preserved : goal.loop-byte-preserved
loop-byte-preserved c =
    let b = get_or c.args.bytes.now c.loop-byte.byte-index 0 in
    let high : vec_items c.push.new.self ≡ vec_items c.loop-byte.out ++ hex_digit (b / 16) ∷ [] = search rules in
    let low : vec_items c.push-in-loop-byte.new.self ≡ vec_items c.push.new.self ++ hex_digit (b % 16) ∷ [] = search rules in
    one_more hexadecimal two_digits hex_cons c.args.bytes.now (vec_items c.args.out.now) (vec_items c.loop-byte.out) c.loop-byte.byte-index c.loop-byte.invariant (vec_items c.push-in-loop-byte.new.self) b 0 c.loop-byte-test.true refl (digits_done b _ _ _ high low)

pub returns-clause-written : goal.returns-clause-written
returns-clause-written c = all_done hexadecimal hex_none c.args.bytes.now (vec_items c.args.out.now) (vec_items c.loop-byte.out) c.loop-byte.byte-index c.loop-byte.invariant c.loop-byte-test.false

pub returns-clause-good : goal.returns-clause-good
returns-clause-good c = bytes_good c.args.bytes.now c.type_inv.bytes
