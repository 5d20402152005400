use Rattle.protocol.proofs.Hearing.{ask_law}
use Rattle.protocol.proofs.ask_law.Goals as goal

pub returns : goal.returns
returns c = ask_law
