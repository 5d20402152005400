use Rattle.std.proofs.Common.{[], Ok, sym, ap, ◌∙◌, subst}
use Rattle.wire.specs.Fields.{Takes, IsName}
use Rattle.wire.proofs.Cutting.{list_there, no_list_there, root_name}
use Rattle.wire.proofs.fields.Fields.name_if.Goals as goal

pub returns-else-there : goal.returns-else-there
returns-else-there c = ([], no_list_there c.args.there _ c.if-there.false, ap Ok c.root.ensures ∙ sym root_name)

pub returns-then-there : goal.returns-then-there
returns-then-there c = subst (λ due. Takes IsName due c.args.self.now.rest.now c.name.result c.name.new.self.rest.now) (sym (list_there c.args.there c.args.self.now.rest.now c.if-there.true)) c.name.ensures
