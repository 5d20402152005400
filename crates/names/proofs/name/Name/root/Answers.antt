use Rattle.std.proofs.Common.{refl, lit≤}
use Rattle.names.specs.Labels.{proper, written}
use Rattle.names.specs.Layout.{pieces, rising}
use Rattle.names.specs.Names.{labels}
use Rattle.names.proofs.name.Name.root.Goals as goal

pub invariant_of-result : goal.invariant_of-result
unfolding proper written pieces rising
invariant_of-result c = record { counted = lit≤ tt; laid = refl; limited = refl }

pub returns : goal.returns
unfolding labels pieces
returns c = refl
