use Rattle.std.proofs.Common.{◌≡◌, true, [], ◌∷◌, ◌++◌, map, vec_items, rules}
use Rattle.zonetext.specs.TextLaws.{are_bytes}
use Rattle.zonetext.specs.Written.{other_piece, pieces_text}
use Rattle.zonetext.proofs.Appending.{one_more, all_done, one_held, all_held, pieces_none, pieces_cons}
use Rattle.zonetext.proofs.writing.data.write_others.Goals as goal

pub loop-piece-preserved : goal.loop-piece-preserved
loop-piece-preserved c =
    let x = c.piece-item.result in
    let e : vec_items c.write_other.new.out ≡ vec_items c.loop-piece.out ++ pieces_text (other_piece (vec_items x) ∷ []) = search rules in
    let h : are_bytes (vec_items x) ≡ true = search rules in
    record {
      done = one_more (λ xs. pieces_text (map other_piece (map vec_items xs))) (λ v. pieces_text (other_piece (vec_items v) ∷ [])) (λ v vs. pieces_cons (other_piece (vec_items v)) (map other_piece (map vec_items vs))) c.args.pieces.now (vec_items c.args.out.now) (vec_items c.loop-piece.out) c.loop-piece.piece-index c.loop-piece.invariant.done (vec_items c.write_other.new.out) x x c.loop-piece-test.true c.piece-item.is e;
      good = one_held are_bytes vec_items c.args.pieces.now c.loop-piece.piece-index c.loop-piece.invariant.good x c.loop-piece-test.true c.piece-item.is h;
    }

pub returns-clause-written : goal.returns-clause-written
returns-clause-written c = all_done (λ xs. pieces_text (map other_piece (map vec_items xs))) pieces_none c.args.pieces.now (vec_items c.args.out.now) (vec_items c.loop-piece.out) c.loop-piece.piece-index c.loop-piece.invariant.done c.loop-piece-test.false

pub returns-clause-good : goal.returns-clause-good
returns-clause-good c = all_held are_bytes vec_items c.args.pieces.now c.loop-piece.piece-index c.loop-piece.invariant.good c.loop-piece-test.false
