use Rattle.std.proofs.Common.{◌∷◌, length, vec_items, ap, ◌∙◌, arith, rules}
use Rattle.wire.specs.Given.{written, joined}
use Rattle.wire.proofs.Putting.{none_behind, one_behind, all_behind, short_piece}
use Rattle.wire.proofs.buffer.Buffer.pieces.Goals as goal

pub loop-piece-init : goal.loop-piece-init
loop-piece-init c = none_behind vec_items c.args.pieces.now _ _ (length c.args.pieces.now) (search rules) c.byte.ensures

pub piece-requires : goal.piece-requires
piece-requires c =
    let s = short_piece vec_items c.args.pieces.now c.loop-piece.piece-index c.piece-item.result c.requires c.loop-piece-test.true c.piece-item.is in
    let e = ap length c.as_slice.ensures.value in
    omega arith

pub loop-piece-preserved : goal.loop-piece-preserved
loop-piece-preserved c =
    one_behind vec_items c.args.pieces.now _ _ _ c.loop-piece.piece-index c.piece-item.result c.loop-piece.invariant c.loop-piece-test.true c.piece-item.is
    (c.piece.ensures ∙ ap (λ p. joined (written c.loop-piece.self) (length p ∷ p)) c.as_slice.ensures.value)

pub returns : goal.returns
returns c = all_behind vec_items c.args.pieces.now _ _ c.loop-piece.piece-index c.loop-piece.invariant c.loop-piece-test.false
