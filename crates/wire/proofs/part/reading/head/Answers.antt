use Rattle.wire.specs.Cuts.{then}
use Rattle.wire.specs.Shapes.{cut_head}
use Rattle.wire.proofs.part.reading.head.Goals as goal

pub returns-in_default : goal.returns-in_default
unfolding then cut_head
returns-in_default c = rw c.in_default.ensures.0

pub returns-in_default-number_8 : goal.returns-in_default-number_8
unfolding then cut_head
returns-in_default-number_8 c = rw (c.in-Some.ensures, c.in_default-number_8.ensures.0)

pub returns-in_default-number_8-2 : goal.returns-in_default-number_8-2
unfolding then cut_head
returns-in_default-number_8-2 c = rw (c.in-Some.ensures, c.in-Some-number_8.ensures, c.in_default-number_8-2.ensures.0)

pub returns-in_default-times : goal.returns-in_default-times
unfolding then cut_head
returns-in_default-times c = rw (c.in-Some.ensures, c.in-Some-number_8.ensures, c.in-Some-number_8-2.ensures, c.in_default-times.ensures)

pub returns-in_default-number_2 : goal.returns-in_default-number_2
unfolding then cut_head
returns-in_default-number_2 c = rw (c.in-Some.ensures, c.in-Some-number_8.ensures, c.in-Some-number_8-2.ensures, c.in-Some-times.ensures, c.in_default-number_2.ensures.0)

pub returns-in_default-number_2-2 : goal.returns-in_default-number_2-2
unfolding then cut_head
returns-in_default-number_2-2 c = rw (c.in-Some.ensures, c.in-Some-number_8.ensures, c.in-Some-number_8-2.ensures, c.in-Some-times.ensures, c.in-Some-number_2.ensures, c.in_default-number_2-2.ensures.0)

pub returns : goal.returns
unfolding then cut_head
returns c = rw (c.in-Some.ensures, c.in-Some-number_8.ensures, c.in-Some-number_8-2.ensures, c.in-Some-times.ensures, c.in-Some-number_2.ensures, c.in-Some-number_2-2.ensures)
