use Rattle.std.proofs.Common.{◌-◌, ◌<◌, ◌≤◌, length, get_or, take, vec_items, ap, ◌∙◌, subst, arith}
use lib.ListN.{length-map}
use Rattle.std.proofs.lemmas.List.{length-take-le}
use Rattle.names.specs.Names.{labels}
use Rattle.zones.proofs.ByPlace.{shown}
use Rattle.zones.proofs.Topmost.{cut_none, cut_by, last_of}
use Rattle.zones.proofs.cuts.Cuts.find.Goals as goal

pub returns-in_err-cut : goal.returns-in_err-cut
returns-in_err-cut c =
    let s = c.args.self.now in
    let xs = vec_items s.names in
    let at = c.position.result in
    let b = c.position.ensures.bound in
    let m = length-map xs labels in
    let l = subst (λ zs. length (take at zs) ≤ 0) c.as_slice.ensures.value c.in_err-cut.ensures.item.3 in
    let n = length-take-le at xs (omega arith) in
    rw c.from_residual.ensures (cut_none labels (labels s.apex) (labels c.args.name.now) xs s.ordered s.inside at c.position.ensures.value (omega arith))

pub returns : goal.returns
returns c =
    let s = c.args.self.now in
    let xs = vec_items s.names in
    let at = c.position.result in
    let cut = c.in_ok-cut.cut.now in
    let b = c.position.ensures.bound in
    let m = length-map xs labels in
    let l = subst (λ zs. 0 < length (take at zs)) c.as_slice.ensures.value c.in_ok-cut.ensures.item.3.0 in
    let e = c.in_ok-cut.ensures.item.1 ∙ ap (λ zs. get_or (take at zs) (length (take at zs) - 1) cut) c.as_slice.ensures.value in
    let r = last_of xs at cut (omega arith) l e in
    rw c.then_some.ensures (shown (λ x. labels x.now) c.is_within.result c.in_ok-cut.cut
    ∙ cut_by labels (labels s.apex) (labels c.args.name.now) xs s.ordered s.inside at c.position.ensures.value cut c.is_within.result r.0 (omega arith) r.1 c.is_within.ensures)
