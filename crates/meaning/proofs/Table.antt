-- The worked cases hold: each by computing what its zone says.
use Rattle.std.proofs.Common.{refl}
use Rattle.names.specs.Order.{within}
use Rattle.meaning.specs.Says.{find, highest, any_under, speaker, says}
use Rattle.meaning.specs.Cases.{CasesHold}

pub cases_hold : CasesHold
unfolding within find highest any_under speaker says
cases_hold = (refl, (refl, (refl, (refl, (refl, (refl, (refl, (refl, tt))))))))
