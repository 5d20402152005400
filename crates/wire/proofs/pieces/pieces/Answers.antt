use Rattle.std.proofs.Common.{◌≡◌, [], ◌∷◌, ◌++◌, map, vec_items, Ok, sym, ap, arith, rules}
use Rattle.std.proofs.lemmas.List.{map-append}
use Rattle.wire.proofs.Copying.{never_empty, none_copied, one_copied, all_copied, cut_shorter}
use Rattle.wire.proofs.pieces.pieces.Goals as goal

pub returns-in_default : goal.returns-in_default
returns-in_default c = λ ps h. absurd (never_empty c.args.list.now ps (omega arith) h)

pub loop-piece-init : goal.loop-piece-init
loop-piece-init c =
    let none : map vec_items (vec_items c.in_ok-pieces.pieces) ≡ [] = search rules in
    λ ps h. rw none (none_copied c.args.list.now ps (omega arith) h)

pub loop-piece-preserved : goal.loop-piece-preserved
loop-piece-preserved c =
    let more : map vec_items (vec_items c.push.new.self) ≡ map vec_items (vec_items c.loop-piece.pieces) ++ c.in-Some.piece.now ∷ [] = search (rules, map-append) in
    λ ps h. rw more (one_copied ps _ _ _ _ (c.loop-piece.invariant ps h) (sym c.in-Some.ensures))

pub loop-piece-smaller : goal.loop-piece-smaller
loop-piece-smaller c = cut_shorter _ _ _ (sym c.in-Some.ensures)

pub returns : goal.returns
returns c = λ ps h. ap Ok (all_copied ps _ _ (c.loop-piece.invariant ps h) (sym c.in_default-cut_piece.ensures))
