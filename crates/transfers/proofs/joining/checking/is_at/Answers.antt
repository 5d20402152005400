use Rattle.std.proofs.Common.{nat_eq, length, ap, ◌∙◌}
use Rattle.std.specs.Cmp.Lexicographic.{pointwise}
use Rattle.names.specs.Names.{labels}
use Rattle.names.specs.Wire.{wire}
use Rattle.meaning.proofs.Rules.{told_same}
use Rattle.transfers.proofs.Searched.{apart_by_length}
use Rattle.transfers.proofs.joining.checking.is_at.Goals as goal

pub returns-then-wire_len : goal.returns-then-wire_len
returns-then-wire_len c =
    let n = labels c.args.name.now in
    c.eq.ensures ∙ ap (λ a. pointwise (pointwise nat_eq) a n) c.name-then-wire_len.ensures ∙ told_same (labels c.args.set.now.name) n

pub returns-else-wire_len : goal.returns-else-wire_len
returns-else-wire_len c =
    let long = c.wire_len.ensures.value ∙ ap (λ a. length (wire a)) c.name.ensures in
    apart_by_length (labels c.args.set.now.name) (labels c.args.name.now) c.wire_len.result c.wire_len-2.result long c.wire_len-2.ensures.value c.if-wire_len.false
