use Rattle.cache.proofs.Soonest.{flags_laws}
use Rattle.cache.proofs.store.put.flags_laws.Goals as goal

pub returns : goal.returns
returns c = flags_laws
