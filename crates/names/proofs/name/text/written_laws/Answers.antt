use Rattle.names.proofs.RoundTrip.{written_laws}
use Rattle.names.proofs.name.text.written_laws.Goals as goal

pub returns : goal.returns
returns c = written_laws
