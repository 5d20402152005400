use Rattle.std.proofs.Common.{◌≡◌, ◌+◌, [], ◌∷◌, ◌++◌, map, get_or, inl, vec_items, sym, ap, subst, rules}
use Rattle.std.specs.Option.{ok_or}
use Rattle.std.proofs.lemmas.List.{get_or_default}
use Rattle.names.specs.declared.fault.Fault.TheVariants.{BadData}
use Rattle.records.specs.Contents.{bytes_of}
use Rattle.zonetext.specs.Fields.{address_of}
use Rattle.zonetext.proofs.Taking.{Taking, one_taken, bad_taken, all_taken, one_kept}
use Rattle.zonetext.proofs.fields.addresses.Goals as goal

pub returns-in_default : goal.returns-in_default
returns-in_default c =
    let xs = c.args.pieces.now in
    let i = c.loop-piece.piece-index in
    inl (ap (λ o. ok_or o BadData) (bad_taken address_of xs (map bytes_of (vec_items c.loop-piece.addresses)) i (get_or xs i _) c.loop-piece.invariant c.loop-piece-test.true (get_or_default xs i _ _ c.loop-piece-test.true) (sym c.in_default.ensures)))

pub loop-piece-preserved : goal.loop-piece-preserved
loop-piece-preserved c =
    let xs = c.args.pieces.now in
    let i = c.loop-piece.piece-index in
    let items : vec_items c.push.new.self ≡ vec_items c.loop-piece.addresses ++ c.in-Some.address ∷ [] = search rules in
    subst (λ ys. Taking address_of xs ys (i + 1)) (sym (one_kept bytes_of (vec_items c.loop-piece.addresses) (vec_items c.push.new.self) c.in-Some.address items))
    (one_taken address_of xs (map bytes_of (vec_items c.loop-piece.addresses)) i (get_or xs i _) (bytes_of c.in-Some.address) c.loop-piece.invariant c.loop-piece-test.true (get_or_default xs i _ _ c.loop-piece-test.true) (sym c.in-Some.ensures))

pub returns : goal.returns
returns c =
    ap (λ o. ok_or o BadData) (all_taken address_of c.args.pieces.now (map bytes_of (vec_items c.loop-piece.addresses)) c.loop-piece.piece-index c.loop-piece.invariant c.loop-piece-test.false)
