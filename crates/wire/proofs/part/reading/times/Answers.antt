use Rattle.wire.specs.Cuts.{then}
use Rattle.wire.specs.Shapes.{cut_times}
use Rattle.wire.proofs.part.reading.times.Goals as goal

pub returns-in_default : goal.returns-in_default
unfolding then cut_times
returns-in_default c = rw c.in_default.ensures.0

pub returns-in_default-number_4 : goal.returns-in_default-number_4
unfolding then cut_times
returns-in_default-number_4 c = rw (c.in-Some.ensures, c.in_default-number_4.ensures.0)

pub returns-in_default-number_4-2 : goal.returns-in_default-number_4-2
unfolding then cut_times
returns-in_default-number_4-2 c = rw (c.in-Some.ensures, c.in-Some-number_4.ensures, c.in_default-number_4-2.ensures.0)

pub returns : goal.returns
unfolding then cut_times
returns c = rw (c.in-Some.ensures, c.in-Some-number_4.ensures, c.in-Some-number_4-2.ensures)
