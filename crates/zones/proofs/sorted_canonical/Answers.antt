use Rattle.zones.proofs.Canonical.{sorted_canonical}
use Rattle.zones.proofs.sorted_canonical.Goals as goal

pub returns : goal.returns
returns c = sorted_canonical
