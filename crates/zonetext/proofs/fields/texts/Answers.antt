use Rattle.std.proofs.Common.{◌≡◌, ◌+◌, [], ◌∷◌, ◌++◌, map, get_or, Err, vec_items, sym, ap, ◌∙◌, subst, rules}
use Rattle.std.specs.Option.{ok_or}
use Rattle.std.proofs.lemmas.List.{get_or_default}
use Rattle.std.proofs.lemmas.Result.{err_from_is_err_and}
use Rattle.names.specs.declared.fault.Fault.TheVariants.{BadData}
use Rattle.zonetext.specs.Fields.{all_of, text_of}
use Rattle.zonetext.specs.Readings.{piece_of, Reads}
use Rattle.zonetext.proofs.Taking.{Taking, one_taken, one_refused, all_taken, one_kept, some_ok}
use Rattle.zonetext.proofs.fields.texts.Goals as goal

pub returns-in_err-text : goal.returns-in_err-text
returns-in_err-text c =
    let xs = c.args.pieces.now in
    let i = c.loop-piece.piece-index in
    let p = err_from_is_err_and c.from_residual-in_err-text.result c.from_residual-in_err-text.ensures.1 in
    subst (Reads (λ v. map vec_items (vec_items v)) (ok_or (all_of text_of (map piece_of xs)) BadData)) (sym (p.1 ∙ ap Err p.2))
    (one_refused text_of xs (map vec_items (vec_items c.loop-piece.texts)) i (get_or xs i _) c.in_err-text.field-0.0 c.loop-piece.invariant c.loop-piece-test.true (get_or_default xs i _ _ c.loop-piece-test.true) c.in_err-text.ensures)

pub loop-piece-preserved : goal.loop-piece-preserved
loop-piece-preserved c =
    let xs = c.args.pieces.now in
    let i = c.loop-piece.piece-index in
    let items : vec_items c.push.new.self ≡ vec_items c.loop-piece.texts ++ c.in_ok-text.field-0 ∷ [] = search rules in
    subst (λ ys. Taking text_of xs ys (i + 1)) (sym (one_kept vec_items (vec_items c.loop-piece.texts) (vec_items c.push.new.self) c.in_ok-text.field-0 items))
    (one_taken text_of xs (map vec_items (vec_items c.loop-piece.texts)) i (get_or xs i _) (vec_items c.in_ok-text.field-0) c.loop-piece.invariant c.loop-piece-test.true (get_or_default xs i _ _ c.loop-piece-test.true) (some_ok _ _ c.in_ok-text.ensures))

pub returns : goal.returns
returns c =
    ap (λ o. ok_or o BadData) (all_taken text_of c.args.pieces.now (map vec_items (vec_items c.loop-piece.texts)) c.loop-piece.piece-index c.loop-piece.invariant c.loop-piece-test.false)
