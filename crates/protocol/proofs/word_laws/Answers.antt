use Rattle.protocol.proofs.Words.{word_laws}
use Rattle.protocol.proofs.word_laws.Goals as goal

pub returns : goal.returns
returns c = word_laws
