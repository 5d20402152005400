use Rattle.std.proofs.Common.{◌+◌, ◌-◌, get_or, Some, refl, sym, ap, ◌∙◌, arith}
use Rattle.wire.proofs.Cutting.{no_list, one_walked, walk_short, walked, list_front}
use Rattle.wire.proofs.fields.Fields.list.Goals as goal

pub returns-in_default : goal.returns-in_default
returns-in_default c = (no_list c.args.self.now.rest.now (omega arith), refl)

pub returns-in_default-cut_piece : goal.returns-in_default-cut_piece
returns-in_default-cut_piece c =
    let n = get_or c.args.self.now.rest.now 0 0 in
    (walk_short c.args.self.now.rest.now _ (n - c.loop.counter - 1) c.loop.rest.now (omega arith) c.loop.invariant (omega arith) (sym c.in_default-cut_piece.ensures), refl)

pub loop-preserved : goal.loop-preserved
loop-preserved c =
    let n = get_or c.args.self.now.rest.now 0 0 in
    one_walked _ _ _ (n - (c.loop.counter + 1)) _ _ c.in-Some.after.now c.loop.invariant (omega arith) (sym c.in-Some.ensures)

pub overflow_sub-self : goal.overflow_sub-self
overflow_sub-self c = (walked c.args.self.now.rest.now _ c.loop.rest.now (omega arith) c.loop.invariant (omega arith)).within

pub returns : goal.returns
returns c =
    let w = walked c.args.self.now.rest.now _ c.loop.rest.now (omega arith) c.loop.invariant (omega arith) in
    let f = list_front c.args.self.now.rest.now c.loop.rest.now w _ refl in
    (w.pieces, w.cut ∙ ap (λ r. Some (w.pieces, r)) (sym f.1 ∙ sym c.split_at.ensures.back), c.split_at.ensures.front ∙ f.0)
