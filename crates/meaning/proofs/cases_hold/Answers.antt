use Rattle.meaning.proofs.Table.{cases_hold}
use Rattle.meaning.proofs.cases_hold.Goals as goal

pub returns : goal.returns
returns c = cases_hold
