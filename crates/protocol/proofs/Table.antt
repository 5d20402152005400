-- The worked cases hold, each by computing; those about one zone are proved beside its definition.
use Rattle.std.proofs.Common.{List, [], ◌∷◌, map, refl}
use Rattle.std.specs.List.{AllByRecursion}
use Rattle.names.specs.Order.{within}
use Rattle.meaning.specs.Says.{find, highest, any_under, speaker, says}
use Rattle.meaning.specs.Cases as one-zone
use Rattle.meaning.proofs.Table as zone-table
use Rattle.protocol.specs.Lists.{first}
use Rattle.protocol.specs.Words.{tells, next}
use Rattle.protocol.specs.World.{current}
use Rattle.protocol.specs.Walks.{walk}
use Rattle.protocol.specs.Cases.{OfZone, Holds, CasesHold}

of_zones : (cs : List one-zone.Case) → AllByRecursion one-zone.Holds cs → AllByRecursion Holds (map OfZone cs)
of_zones [] h = tt
of_zones (c ∷ cs) h = (h.0, of_zones cs h.1)

pub cases_hold : CasesHold
unfolding within find highest any_under speaker says first tells next current walk
cases_hold = ((refl, refl), ((refl, refl), ((refl, refl), ((refl, refl), ((refl, refl), ((refl, refl), ((refl, refl), (refl, (refl, of_zones one-zone.cases zone-table.cases_hold)))))))))
