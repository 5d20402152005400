use Rattle.std.proofs.Common.{rules}
use Rattle.protocol.specs.Words.{tells}
use Rattle.authority.proofs.telling.tell.Goals as goal

pub returns-in_default : goal.returns-in_default
unfolding tells
returns-in_default c = search rules

pub returns : goal.returns
unfolding tells
returns c = search rules
