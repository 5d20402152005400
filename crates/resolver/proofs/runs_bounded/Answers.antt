use Rattle.resolver.proofs.Running.{runs_bounded}
use Rattle.resolver.proofs.runs_bounded.Goals as goal

pub returns : goal.returns
returns c = runs_bounded
