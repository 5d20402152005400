use Rattle.protocol.proofs.Exact.{bound_exact}
use Rattle.protocol.proofs.bound_is_exact.Goals as goal

pub returns : goal.returns
returns c = bound_exact
