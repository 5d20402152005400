use Rattle.std.proofs.Common.{◌∙◌}
use Rattle.names.proofs.Fronts.{padded, eight_packed}
use Rattle.names.proofs.name.order.front_of.Goals as goal

pub returns : goal.returns
returns c =
    c.from_be_bytes.ensures ∙ eight_packed c.args.label.now _ (λ i h. padded c.args.label.now c.copy_from_slice.new.self c.min-len.result i c.min-len.ensures c.copy_from_slice.ensures.after h)
