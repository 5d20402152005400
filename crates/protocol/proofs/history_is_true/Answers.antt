use Rattle.protocol.proofs.History.{history_true}
use Rattle.protocol.proofs.history_is_true.Goals as goal

pub returns : goal.returns
returns c = history_true
