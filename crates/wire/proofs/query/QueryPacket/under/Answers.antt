use Rattle.std.proofs.Common.{ap, ◌∙◌}
use Rattle.names.specs.Names.{labels}
use Rattle.names.specs.Order.{within}
use Rattle.wire.proofs.Upper.{within_taken}
use Rattle.wire.proofs.query.QueryPacket.under.Goals as goal

pub invariant_of-result : goal.invariant_of-result
invariant_of-result c =
    record { inside = ap (λ a. within a (labels c.args.name)) c.ancestor.ensures ∙ within_taken c.args.depth (labels c.args.name) }
