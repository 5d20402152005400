use Rattle.zones.proofs.ByPlace.{distinct}
use Rattle.zones.proofs.sorted_distinct.Goals as goal

pub returns : goal.returns
returns c = λ z o. distinct z.sets o
