use Rattle.protocol.proofs.Table.{cases_hold}
use Rattle.protocol.proofs.cases_hold.Goals as goal

pub returns : goal.returns
returns c = cases_hold
