use Rattle.std.proofs.Common.{◌≡◌, true, eqb, length, take, Ok, subst, sym, ap, ◌∙◌, rules}
use Rattle.std.proofs.lemmas.Result.{err_from_is_err_and}
use Rattle.std.specs.Option.{IfSome}
use Rattle.names.specs.Names.{labels, name_of, given}
use Rattle.names.specs.Wire.{wire}
use Rattle.records.specs.Numbers.{kind_given}
use Rattle.wire.specs.Cuts.{then, next}
use Rattle.wire.specs.Packets.{query_in}
use Rattle.wire.specs.Shapes.{query_shape}
use Rattle.wire.proofs.Shaping.{ends, goes_on}
use Rattle.wire.proofs.Upper.{bad_lower, bad_kind, made_name, within_taken}
use Rattle.wire.proofs.query.QueryPacket.read.Goals as goal

pub returns-in_default : goal.returns-in_default
unfolding then query_shape
returns-in_default c = rw c.in_default.ensures.0

pub returns-in_default-list : goal.returns-in_default-list
unfolding then query_shape
returns-in_default-list c = rw (c.in-Some.ensures, c.in_default-list.ensures.0)

pub returns-in_default-byte : goal.returns-in_default-byte
unfolding then query_shape
returns-in_default-byte c = rw (c.in-Some.ensures, c.in-Some-list.ensures.1, c.in_default-byte.ensures.0)

pub returns-in_default-list-2 : goal.returns-in_default-list-2
unfolding then query_shape
returns-in_default-list-2 c = rw (c.in-Some.ensures, c.in-Some-list.ensures.1, c.in-Some-byte.ensures, c.in_default-list-2.ensures.0)

pub returns-then-not-is_empty : goal.returns-then-not-is_empty
unfolding then query_shape
returns-then-not-is_empty c = rw (c.in-Some.ensures, c.in-Some-list.ensures.1, c.in-Some-byte.ensures, c.in-Some-list-2.ensures.1, goes_on _ c.list-2.new.self.rest.now (search rules))

pub returns-in_err-lower : goal.returns-in_err-lower
unfolding then query_shape
returns-in_err-lower c =
    let p = err_from_is_err_and c.from_residual.result c.from_residual.ensures.1 in
    let e : eqb (length c.list-2.new.self.rest.now) 0 ≡ true = search rules in
    let bad = sym (c.name_in.ensures _ c.in-Some-list-2.ensures.2) ∙ ap given c.in_err-lower.was in
    rw (p.1, p.2, c.in-Some.ensures, c.in-Some-list.ensures.1, c.in-Some-byte.ensures, c.in-Some-list-2.ensures.1, ends) (sym (bad_lower _ _ bad))

pub returns-in_err-kind : goal.returns-in_err-kind
unfolding then query_shape
returns-in_err-kind c =
    let p = err_from_is_err_and c.from_residual-in_err-kind.result c.from_residual-in_err-kind.ensures.1 in
    let e : eqb (length c.list-2.new.self.rest.now) 0 ≡ true = search rules in
    let bad = sym c.try_from.ensures ∙ ap kind_given c.in_err-kind.was in
    rw (p.1, p.2, c.in-Some.ensures, c.in-Some-list.ensures.1, c.in-Some-byte.ensures, c.in-Some-list-2.ensures.1, ends) (sym (bad_kind _ _ bad))

pub returns-in_err-name_in-in-None : goal.returns-in_err-name_in-in-None
unfolding then next query_shape query_in
returns-in_err-name_in-in-None c =
    let p = err_from_is_err_and c.from_residual-in_err-name_in-in-None.result c.from_residual-in_err-name_in-in-None.ensures.1 in
    let e : eqb (length c.list-2.new.self.rest.now) 0 ≡ true = search rules in
    rw (p.1, p.2, c.in-Some.ensures, c.in-Some-list.ensures.1, c.in-Some-byte.ensures, c.in-Some-list-2.ensures.1, ends, ← c.name_in-in-None.ensures _ c.in-Some-list.ensures.2, c.in_err-name_in-in-None.was)

pub returns-in_ok-name_in-in-None : goal.returns-in_ok-name_in-in-None
unfolding then next query_shape query_in
returns-in_ok-name_in-in-None c =
    let e : eqb (length c.list-2.new.self.rest.now) 0 ≡ true = search rules in
    let name = sym (ap given c.in_ok-lower.was) ∙ c.name_in.ensures _ c.in-Some-list-2.ensures.2 in
    rw (c.in-Some.ensures, c.in-Some-list.ensures.1, c.in-Some-byte.ensures, c.in-Some-list-2.ensures.1, ends, ← c.name_in-in-None.ensures _ c.in-Some-list.ensures.2, c.in_ok-name_in-in-None.was, ← c.try_from.ensures, c.in_ok-kind.was, ← name)
    c.new.ensures

pub returns-in-Some-front_count : goal.returns-in-Some-front_count
unfolding then next query_shape query_in
returns-in-Some-front_count c =
    let e : eqb (length c.list-2.new.self.rest.now) 0 ≡ true = search rules in
    let name = sym (ap given c.in_ok-lower.was) ∙ c.name_in.ensures _ c.in-Some-list-2.ensures.2 in
    let lower = labels c.in_ok-lower.lower in
    let lower_list = c.in-Some-list-2.ensures.2 ∙ ap wire (sym (made_name _ _ name)) in
    let front = c.front_count.ensures c.in-Some-list.ensures.0 c.in-Some-list.ensures.2 lower_list in
    let apex = subst (λ o. IfSome o (λ n. Ok (take n lower) ≡ name_of c.in-Some-list.ensures.0)) c.in-Some-front_count.is front in
    rw (c.in-Some.ensures, c.in-Some-list.ensures.1, c.in-Some-byte.ensures, c.in-Some-list-2.ensures.1, ends, ← apex, ← c.try_from.ensures, c.in_ok-kind.was, ← name, within_taken c.in-Some-front_count.depth lower)
    (ap Ok c.under.ensures)
