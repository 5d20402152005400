use Rattle.std.proofs.Common.{◌≡◌, true, [], ◌∷◌, ◌++◌, map, vec_items, rules}
use Rattle.zonetext.specs.Division.{Text}
use Rattle.zonetext.specs.Written.{pieces_text, holds_text}
use Rattle.zonetext.proofs.Appending.{one_more, all_done, one_held, all_held, pieces_none, pieces_cons}
use Rattle.zonetext.proofs.writing.data.write_texts.Goals as goal

pub loop-text-preserved : goal.loop-text-preserved
loop-text-preserved c =
    let x = c.text-item.result in
    let h : holds_text (vec_items x) ≡ true = search rules in
    let e : vec_items c.write_text.new.out ≡ vec_items c.loop-text.out ++ pieces_text (Text (vec_items x) ∷ []) = search rules in
    record {
      done = one_more (λ xs. pieces_text (map Text (map vec_items xs))) (λ v. pieces_text (Text (vec_items v) ∷ [])) (λ v vs. pieces_cons (Text (vec_items v)) (map Text (map vec_items vs))) c.args.texts.now (vec_items c.args.out.now) (vec_items c.loop-text.out) c.loop-text.text-index c.loop-text.invariant.done (vec_items c.write_text.new.out) x x c.loop-text-test.true c.text-item.is e;
      held = one_held holds_text vec_items c.args.texts.now c.loop-text.text-index c.loop-text.invariant.held x c.loop-text-test.true c.text-item.is h;
    }

pub returns : goal.returns
returns c = (
  all_held holds_text vec_items c.args.texts.now c.loop-text.text-index c.loop-text.invariant.held c.loop-text-test.false,
  all_done (λ xs. pieces_text (map Text (map vec_items xs))) pieces_none c.args.texts.now (vec_items c.args.out.now) (vec_items c.loop-text.out) c.loop-text.text-index c.loop-text.invariant.done c.loop-text-test.false,
)
