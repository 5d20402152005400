use Rattle.std.proofs.Common.{◌≡◌, ◌-◌, [], ◌∷◌, ◌++◌, length, get_or, take, drop, inl, vec_items, sym, ap, subst, arith, rules}
use Rattle.std.specs.Option.{ok_or}
use Rattle.names.specs.declared.fault.Fault.TheVariants.{BadData}
use Rattle.zonetext.proofs.Hexadecimal.{Reading, one_read, bad_read, all_read, odd_read, two_first}
use Rattle.zonetext.proofs.fields.bytes.Goals as goal

pub returns-in_default-byte : goal.returns-in_default-byte
returns-in_default-byte c =
    let rest = c.loop-rest.rest.now in
    inl (ap (λ o. ok_or o BadData) (bad_read c.args.word.now (vec_items c.loop-rest.bytes) rest (get_or rest 0 0) (get_or rest 1 0) (take (length rest - 2) (drop 2 rest)) c.loop-rest.invariant (two_first rest (omega arith)) c.in_default-byte.ensures))

pub loop-rest-preserved : goal.loop-rest-preserved
loop-rest-preserved c =
    let rest = c.loop-rest.rest.now in
    let items : vec_items c.push.new.self ≡ vec_items c.loop-rest.bytes ++ c.in-Some.byte ∷ [] = search rules in
    subst (λ bs. Reading c.args.word.now bs (take (length rest - 2) (drop 2 rest))) (sym items)
    (one_read c.args.word.now (vec_items c.loop-rest.bytes) rest (get_or rest 0 0) (get_or rest 1 0) c.in-Some.byte (take (length rest - 2) (drop 2 rest)) c.loop-rest.invariant (two_first rest (omega arith)) c.in-Some.ensures)

pub returns-then-not-is_empty : goal.returns-then-not-is_empty
returns-then-not-is_empty c =
    let rest = c.loop-rest.rest.now in
    let one : length rest ≡ 1 = search rules in
    inl (ap (λ o. ok_or o BadData) (odd_read c.args.word.now (vec_items c.loop-rest.bytes) rest c.loop-rest.invariant one))

pub returns : goal.returns
returns c =
    let rest = c.loop-rest.rest.now in
    let none : length rest ≡ 0 = search rules in
    ap (λ o. ok_or o BadData) (all_read c.args.word.now (vec_items c.loop-rest.bytes) rest c.loop-rest.invariant none)
