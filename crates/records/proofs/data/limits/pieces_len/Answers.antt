use Rattle.std.proofs.Common.{◌+◌, ◌≤◌, map, vec_items, ◌∙◌, arith, rules}
use Rattle.records.proofs.Weighed.{fit_wire, one_weighed, all_weighed}
use Rattle.records.proofs.data.limits.pieces_len.Goals as goal

pub loop-piece-preserved : goal.loop-piece-preserved
loop-piece-preserved c =
    one_weighed vec_items c.args.pieces.now c.loop-piece.len c.loop-piece.piece-index c.len.result c.piece-item.result c.loop-piece.invariant c.loop-piece-test.true c.piece-item.is (c.len.ensures ∙ c.piece-item.result.ok.0)

pub overflow_add-len-in-loop-piece : goal.overflow_add-len-in-loop-piece
overflow_add-len-in-loop-piece c =
    let w = one_weighed vec_items c.args.pieces.now c.loop-piece.len c.loop-piece.piece-index c.len.result c.piece-item.result c.loop-piece.invariant c.loop-piece-test.true c.piece-item.is (c.len.ensures ∙ c.piece-item.result.ok.0) in
    let b = fit_wire (map vec_items c.args.pieces.now) c.requires in
    let l : c.loop-piece.len + (1 + c.len.result) ≤ 616 = omega arith in
    search rules

pub returns : goal.returns
returns c =
    let e = all_weighed vec_items c.args.pieces.now c.loop-piece.len c.loop-piece.piece-index c.loop-piece.invariant c.loop-piece-test.false in
    let b = fit_wire (map vec_items c.args.pieces.now) c.requires in
    record { value = e; bound = omega arith }
