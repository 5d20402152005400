use Rattle.std.proofs.Common.{refl, arith}
use Rattle.wire.proofs.Cutting.{no_byte, one_byte}
use Rattle.wire.proofs.fields.Fields.byte.Goals as goal

pub returns-in_default : goal.returns-in_default
returns-in_default c = (no_byte c.args.self.now.rest.now (omega arith), refl)

pub returns : goal.returns
returns c = one_byte c.args.self.now.rest.now (omega arith)
