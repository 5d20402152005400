use Rattle.std.proofs.Common.{sym, ap, ◌∙◌}
use Rattle.wire.specs.Given.{written, joined}
use Rattle.wire.proofs.Putting.{no_pieces}
use Rattle.wire.proofs.buffer.Buffer.no_pieces.Goals as goal

pub returns : goal.returns
returns c = c.byte.ensures ∙ ap (joined (written c.args.self.now)) (sym no_pieces)
