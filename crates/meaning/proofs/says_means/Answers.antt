use Rattle.meaning.proofs.Rules.{says_means}
use Rattle.meaning.proofs.says_means.Goals as goal

pub returns : goal.returns
returns c = says_means
