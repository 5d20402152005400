use Rattle.protocol.proofs.Main.{main}
use Rattle.protocol.proofs.promise_stands.Goals as goal

pub returns : goal.returns
returns c = main
