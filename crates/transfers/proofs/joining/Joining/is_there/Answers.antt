use Rattle.std.proofs.Common.{◌≡◌, ◌-◌, false, get_or, vec_items, unwrap_or, sym, ap, ◌∙◌, arith}
use Rattle.transfers.specs.Joining.{is_there}
use Rattle.transfers.proofs.Marks.{none_zeroth, there_is}
use Rattle.transfers.proofs.joining.Joining.is_there.Goals as goal

pub returns-in_default : goal.returns-in_default
returns-in_default c =
    let h = c.in_default.ensures in
    let f = c.from.ensures in
    let zeroth : c.args.number ≡ 0 = omega arith in
    sym (ap (is_there (vec_items c.args.self.now.there)) zeroth ∙ none_zeroth (vec_items c.args.self.now.there))

pub returns : goal.returns
returns c =
    let bs = vec_items c.args.self.now.there in
    let h = c.in-Some.ensures in
    let f = c.from.ensures in
    let at : c.in-Some.at ≡ c.args.number - 1 = omega arith in
    c.unwrap_or.ensures ∙ ap (λ o. unwrap_or o false) c.copied.ensures ∙ c.get.ensures.lookup.4 (omega arith) false
    ∙ (λ i. get_or (c.deref.ensures.value i) (at i) false)
    ∙ sym (there_is bs c.args.number (omega arith))
