use Rattle.std.proofs.Common.{refl, arith}
use Rattle.wire.proofs.Cutting.{what_there, no_what}
use Rattle.wire.proofs.fields.Fields.what.Goals as goal

pub returns-in_default : goal.returns-in_default
returns-in_default c = (no_what c.args.self.now.rest.now (omega arith), refl)

pub returns-in_default-from_number : goal.returns-in_default-from_number
returns-in_default-from_number c = (what_there c.args.self.now.rest.now _ (omega arith) c.in_default-from_number.ensures, refl)

pub returns : goal.returns
returns c = what_there c.args.self.now.rest.now _ (omega arith) c.in-Some.ensures
