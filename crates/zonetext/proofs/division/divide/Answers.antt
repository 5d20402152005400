use Rattle.std.proofs.Common.{◌≡◌, ◌⊎◌, [], ◌∷◌, ◌++◌, map, Some, None, Err, MatchResult, inl, vec_items, refl, sym, ap, ◌∙◌, subst, arith, rules}
use Rattle.std.proofs.lemmas.List.{map-append}
use Rattle.std.proofs.lemmas.Result.{err_from_is_err_and}
use Rattle.names.specs.declared.fault.Fault.TheVariants.{Malformed, NoMemory}
use Rattle.zonetext.specs.Division.{read_part, first_piece, Has, Nothing, pieces_of}
use Rattle.zonetext.specs.Readings.{piece_of}
use Rattle.zonetext.proofs.Dividing.{Dividing, shorter, one_cut, all_cut, bad_cut, within_line}
use Rattle.zonetext.proofs.division.divide.Goals as goal

pub returns-in_err-piece : goal.returns-in_err-piece
returns-in_err-piece c =
    let line = c.args.line.now in
    let h = c.in_err-piece.ensures in
    let p = err_from_is_err_and c.from_residual.result c.from_residual.ensures.1 in
    let none = within_line line c.read_part-rest.result.now None c.read_part-rest.ensures (omega arith) (bad_cut (read_part line) (map piece_of (vec_items c.loop-piece.pieces)) c.loop-piece.rest.now c.loop-piece.invariant h.0) in
    subst (λ r. MatchResult r (λ _. pieces_of line ≡ Some (map piece_of (vec_items c.loop-piece.pieces))) (λ f. ((pieces_of line ≡ None) × (f ≡ Malformed)) ⊎ (f ≡ NoMemory))) (sym (p.1 ∙ ap Err (p.2 ∙ h.1))) (inl (none, refl))

pub loop-piece-smaller : goal.loop-piece-smaller
loop-piece-smaller c =
    let cut : first_piece c.loop-piece.rest.now ≡ Has (piece_of c.in-Some.piece) c.in-Some.after.now = search rules in
    shorter c.loop-piece.rest.now (piece_of c.in-Some.piece) c.in-Some.after.now cut

pub loop-piece-preserved : goal.loop-piece-preserved
loop-piece-preserved c =
    let ps = map piece_of (vec_items c.loop-piece.pieces) in
    let cut : first_piece c.loop-piece.rest.now ≡ Has (piece_of c.in-Some.piece) c.in-Some.after.now = search rules in
    let items : vec_items c.push.new.self ≡ vec_items c.loop-piece.pieces ++ c.in-Some.piece ∷ [] = search rules in
    subst (λ xs. Dividing (read_part c.args.line.now) xs c.in-Some.after.now) (sym (ap (map piece_of) items ∙ map-append piece_of (vec_items c.loop-piece.pieces) (c.in-Some.piece ∷ [])))
    (one_cut (read_part c.args.line.now) ps c.loop-piece.rest.now (piece_of c.in-Some.piece) c.in-Some.after.now c.loop-piece.invariant cut)

pub returns : goal.returns
returns c =
    let line = c.args.line.now in
    let cut : first_piece c.loop-piece.rest.now ≡ Nothing = search rules in
    within_line line c.read_part-rest.result.now _ c.read_part-rest.ensures (omega arith) (all_cut (read_part line) (map piece_of (vec_items c.loop-piece.pieces)) c.loop-piece.rest.now c.loop-piece.invariant cut)
