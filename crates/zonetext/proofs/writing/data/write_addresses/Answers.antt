use Rattle.std.proofs.Common.{[], ◌∷◌, get_or, map, vec_items, refl}
use Rattle.std.proofs.lemmas.List.{get_or_default}
use Rattle.records.specs.declared.types.Address.{Address}
use Rattle.records.specs.Contents.{bytes_of}
use Rattle.zonetext.specs.TextLaws.{is_address}
use Rattle.zonetext.specs.Written.{address_piece, pieces_text}
use Rattle.zonetext.proofs.Appending.{one_more, all_done, one_held, all_held, pieces_none, pieces_cons}
use Rattle.zonetext.proofs.writing.data.write_addresses.Goals as goal

pub loop-address-preserved : goal.loop-address-preserved
loop-address-preserved c =
    let d : Address = record { 0 = [] } in
    let i = c.loop-address.address-index in
    let x = get_or c.args.addresses.now i d in
    let is = get_or_default c.args.addresses.now i _ _ c.loop-address-test.true in
    record {
      done = one_more (λ xs. pieces_text (map address_piece (map bytes_of xs))) (λ x. pieces_text (address_piece (bytes_of x) ∷ [])) (λ x xs. pieces_cons (address_piece (bytes_of x)) (map address_piece (map bytes_of xs))) c.args.addresses.now (vec_items c.args.out.now) (vec_items c.loop-address.out) i c.loop-address.invariant.done (vec_items c.write_address.new.out) x d c.loop-address-test.true refl c.in_ok-write_address.ensures.written;
      good = one_held is_address bytes_of c.args.addresses.now i c.loop-address.invariant.good x c.loop-address-test.true is c.in_ok-write_address.ensures.good;
    }

pub returns-clause-written : goal.returns-clause-written
returns-clause-written c = all_done (λ xs. pieces_text (map address_piece (map bytes_of xs))) pieces_none c.args.addresses.now (vec_items c.args.out.now) (vec_items c.loop-address.out) c.loop-address.address-index c.loop-address.invariant.done c.loop-address-test.false

pub returns-clause-good : goal.returns-clause-good
returns-clause-good c = all_held is_address bytes_of c.args.addresses.now c.loop-address.address-index c.loop-address.invariant.good c.loop-address-test.false
