use Rattle.std.proofs.Common.{ap, ◌∙◌}
use Rattle.names.specs.Wire.{read_wire, name_read}
use Rattle.wire.proofs.Cutting.{name_back}
use Rattle.wire.proofs.fields.name_in.Goals as goal

pub returns : goal.returns
returns c = λ ls h. c.name.ensures.value ∙ ap (λ x. name_read (read_wire x)) c.new.ensures ∙ name_back ls c.args.list.now h
