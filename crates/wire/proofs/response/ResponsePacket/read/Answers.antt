use Rattle.std.proofs.Common.{◌≡◌, true, eqb, length, inl, inr, ⊎_elim, refl, rules}
use Rattle.std.proofs.lemmas.Result.{err_from_is_err_and}
use Rattle.wire.specs.Cuts.{then, next}
use Rattle.wire.specs.Packets.{response_in}
use Rattle.wire.specs.Shapes.{response_shape}
use Rattle.wire.proofs.Shaping.{ends, goes_on}
use Rattle.wire.proofs.Telling.{given_reads}
use Rattle.wire.proofs.response.ResponsePacket.read.Goals as goal

pub returns-in_default : goal.returns-in_default
unfolding then response_shape
returns-in_default c = rw c.in_default.ensures.0 (inl refl)

pub returns-in_default-name : goal.returns-in_default-name
unfolding then response_shape
returns-in_default-name c = rw (c.in-Some.ensures, c.in_default-name.ensures.0) (inl refl)

pub returns-in_default-what : goal.returns-in_default-what
unfolding then response_shape
returns-in_default-what c = rw (c.in-Some.ensures, c.in-Some-name.ensures.1, c.in_default-what.ensures.0) (inl refl)

pub returns-in_default-number_4 : goal.returns-in_default-number_4
unfolding then response_shape
returns-in_default-number_4 c = rw (c.in-Some.ensures, c.in-Some-name.ensures.1, c.in-Some-what.ensures, c.in_default-number_4.ensures.0) (inl refl)

pub returns-in_default-name_if : goal.returns-in_default-name_if
unfolding then response_shape
returns-in_default-name_if c = rw (c.in-Some.ensures, c.in-Some-name.ensures.1, c.in-Some-what.ensures, c.in-Some-number_4.ensures, ← c.names_one.ensures, c.in_default-name_if.ensures.0) (inl refl)

pub returns-in_default-list : goal.returns-in_default-list
unfolding then response_shape
returns-in_default-list c = rw (c.in-Some.ensures, c.in-Some-name.ensures.1, c.in-Some-what.ensures, c.in-Some-number_4.ensures, ← c.names_one.ensures, c.in-Some-name_if.ensures.1, c.in_default-list.ensures.0) (inl refl)

pub returns-then-not-is_empty : goal.returns-then-not-is_empty
unfolding then response_shape
returns-then-not-is_empty c = rw (c.in-Some.ensures, c.in-Some-name.ensures.1, c.in-Some-what.ensures, c.in-Some-number_4.ensures, ← c.names_one.ensures, c.in-Some-name_if.ensures.1, c.in-Some-list.ensures.1, goes_on _ c.list.new.self.rest.now (search rules)) (inl refl)

pub returns-in_err-apex : goal.returns-in_err-apex
unfolding then next response_shape response_in
returns-in_err-apex c =
    let e : eqb (length c.list.new.self.rest.now) 0 ≡ true = search rules in
    let p = err_from_is_err_and c.from_residual.result c.from_residual.ensures.1 in
    rw (p.1, p.2, c.in-Some.ensures, c.in-Some-name.ensures.1, c.in-Some-what.ensures, c.in-Some-number_4.ensures, ← c.names_one.ensures, c.in-Some-name_if.ensures.1, c.in-Some-list.ensures.1, ends, ← c.in-Some-name.ensures.2, c.in_err-apex.was) (inl refl)

pub returns-in_err-name : goal.returns-in_err-name
unfolding then next response_shape response_in
returns-in_err-name c =
    let e : eqb (length c.list.new.self.rest.now) 0 ≡ true = search rules in
    let p = err_from_is_err_and c.from_residual-in_err-name.result c.from_residual-in_err-name.ensures.1 in
    rw (p.1, p.2, c.in-Some.ensures, c.in-Some-name.ensures.1, c.in-Some-what.ensures, c.in-Some-number_4.ensures, ← c.names_one.ensures, c.in-Some-name_if.ensures.1, c.in-Some-list.ensures.1, ends, ← c.in-Some-name.ensures.2, c.in_ok-apex.was, ← c.in-Some-name_if.ensures.2, c.in_err-name.was) (inl refl)

pub returns-in_err-told : goal.returns-in_err-told
unfolding then next response_shape response_in
returns-in_err-told c =
    let e : eqb (length c.list.new.self.rest.now) 0 ≡ true = search rules in
    let p = err_from_is_err_and c.from_residual-in_err-told.result c.from_residual-in_err-told.ensures.1 in
    rw (p.1, p.2, c.in-Some.ensures, c.in-Some-name.ensures.1, c.in-Some-what.ensures, c.in-Some-number_4.ensures, ← c.names_one.ensures, c.in-Some-name_if.ensures.1, c.in-Some-list.ensures.1, ends, ← c.in-Some-name.ensures.2, c.in_ok-apex.was, ← c.in-Some-name_if.ensures.2, c.in_ok-name.was)
    (⊎_elim (λ d. inl (rw d)) (λ m. inr m) (c.in_err-told.ensures _ c.in-Some-list.ensures.2))

pub returns : goal.returns
unfolding then next response_shape response_in
returns c =
    let e : eqb (length c.list.new.self.rest.now) 0 ≡ true = search rules in
    rw (c.in-Some.ensures, c.in-Some-name.ensures.1, c.in-Some-what.ensures, c.in-Some-number_4.ensures, ← c.names_one.ensures, c.in-Some-name_if.ensures.1, c.in-Some-list.ensures.1, ends, ← c.in-Some-name.ensures.2, c.in_ok-apex.was, ← c.in-Some-name_if.ensures.2, c.in_ok-name.was, c.in_ok-told.ensures _ c.in-Some-list.ensures.2) (given_reads _ _ c.new.ensures)
