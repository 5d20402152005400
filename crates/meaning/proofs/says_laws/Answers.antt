use Rattle.meaning.proofs.Saying.{says_laws}
use Rattle.meaning.proofs.says_laws.Goals as goal

pub returns : goal.returns
returns c = says_laws
