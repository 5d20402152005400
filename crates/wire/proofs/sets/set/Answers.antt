use Rattle.wire.specs.Cuts.{then}
use Rattle.wire.specs.Shapes.{cut_set}
use Rattle.wire.proofs.sets.set.Goals as goal

pub returns-in_default : goal.returns-in_default
unfolding then cut_set
returns-in_default c = rw c.in_default.ensures.0

pub returns-in_default-byte : goal.returns-in_default-byte
unfolding then cut_set
returns-in_default-byte c = rw (c.in-Some.ensures.1, c.in_default-byte.ensures.0)

pub returns-in_default-number_4 : goal.returns-in_default-number_4
unfolding then cut_set
returns-in_default-number_4 c = rw (c.in-Some.ensures.1, c.in-Some-byte.ensures, c.in_default-number_4.ensures.0)

pub returns-in_default-list : goal.returns-in_default-list
unfolding then cut_set
returns-in_default-list c = rw (c.in-Some.ensures.1, c.in-Some-byte.ensures, c.in-Some-number_4.ensures, c.in_default-list.ensures.0)

pub returns : goal.returns
unfolding then cut_set
returns c = (
  record { name = c.in-Some.ensures.0; kind = c.in-Some-byte.kind; ttl = c.in-Some-number_4.ttl; pieces = c.in-Some-list.ensures.0 },
  rw (c.in-Some.ensures.1, c.in-Some-byte.ensures, c.in-Some-number_4.ensures, c.in-Some-list.ensures.1),
  c.judged.ensures _ _ c.in-Some.ensures.2 c.in-Some-list.ensures.2,
)
