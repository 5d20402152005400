use Rattle.std.proofs.Common.{◌<◌, ◌≤◌, get_or, length, sym, ◌∙◌, rules}
use Rattle.std.specs.List.{between}
use Rattle.std.proofs.lemmas.Bool.Decides.{Decides-eqb}
use Rattle.std.proofs.lemmas.Slice.{first_rest}
use Rattle.std.proofs.lemmas.Slice.Eq.{starts_is}
use Rattle.names.proofs.Laws.{labels_proper}
use Rattle.names.specs.Names.{labels}
use Rattle.wire.proofs.Upper.{upper_list}
use Rattle.wire.proofs.fields.front_count.Goals as goal

pub returns-then-starts_with : goal.returns-then-starts_with
returns-then-starts_with c = λ ls h k.
    let list = c.args.list.now in
    let lower = c.args.lower_list.now in
    let front = between 1 (length list) list in
    let all = between 1 (length lower) lower in
    let some : 0 < length list = search rules in
    let others : 0 < length lower = search rules in
    let at_front = (starts_is Decides-eqb all front c.starts_with.result c.starts_with.ensures.value).0 c.if-starts_with.true in
    let few : get_or list 0 0 ≤ length (labels c.args.lower.now) = search rules in
    upper_list (get_or list 0 0) (get_or lower 0 0) front all _ ls (labels c.args.lower.now) (sym (first_rest list 0 some) ∙ h) (sym (first_rest lower 0 others) ∙ k) at_front few (labels_proper c.args.lower.now)
