use Rattle.lines.proofs.Cut.{line_laws}
use Rattle.lines.proofs.line_laws.Goals as goal

pub returns : goal.returns
returns c = line_laws
