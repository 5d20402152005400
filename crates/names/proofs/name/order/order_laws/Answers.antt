use Rattle.names.proofs.Order.{order_laws}
use Rattle.names.proofs.name.order.order_laws.Goals as goal

pub returns : goal.returns
returns c = order_laws
