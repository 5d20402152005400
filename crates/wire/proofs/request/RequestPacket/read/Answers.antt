use Rattle.std.proofs.Common.{◌≡◌, true, eqb, length, rules}
use Rattle.std.proofs.lemmas.Result.{err_from_is_err_and}
use Rattle.wire.specs.Cuts.{then, next}
use Rattle.wire.specs.Packets.{request_in}
use Rattle.wire.specs.Shapes.{request_shape}
use Rattle.wire.proofs.Shaping.{ends, goes_on}
use Rattle.wire.proofs.request.RequestPacket.read.Goals as goal

pub returns-in_default : goal.returns-in_default
unfolding then request_shape
returns-in_default c = rw c.in_default.ensures.0

pub returns-in_default-name : goal.returns-in_default-name
unfolding then request_shape
returns-in_default-name c = rw (c.in-Some.ensures, c.in_default-name.ensures.0)

pub returns-in_default-number_8 : goal.returns-in_default-number_8
unfolding then request_shape
returns-in_default-number_8 c = rw (c.in-Some.ensures, c.in-Some-name.ensures.1, c.in_default-number_8.ensures.0)

pub returns-then-not-is_empty : goal.returns-then-not-is_empty
unfolding then request_shape
returns-then-not-is_empty c = rw (c.in-Some.ensures, c.in-Some-name.ensures.1, c.in-Some-number_8.ensures, goes_on _ c.number_8-2.new.self.rest.now (search rules))

pub returns-in_err-apex : goal.returns-in_err-apex
unfolding then next request_shape request_in
returns-in_err-apex c =
    let p = err_from_is_err_and c.from_residual.result c.from_residual.ensures.1 in
    let e : eqb (length c.number_8-2.new.self.rest.now) 0 ≡ true = search rules in
    rw (p.1, p.2, c.in-Some.ensures, c.in-Some-name.ensures.1, c.in-Some-number_8.ensures, ends, ← c.in-Some-name.ensures.2, c.in_err-apex.was)

pub returns : goal.returns
unfolding then next request_shape request_in
returns c =
    let e : eqb (length c.number_8-2.new.self.rest.now) 0 ≡ true = search rules in
    rw (c.in-Some.ensures, c.in-Some-name.ensures.1, c.in-Some-number_8.ensures, ends, ← c.in-Some-name.ensures.2, c.in_ok-apex.was)
