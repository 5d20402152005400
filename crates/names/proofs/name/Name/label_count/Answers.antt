use Rattle.std.proofs.Common.{sym}
use Rattle.names.proofs.Laws.{count_is}
use Rattle.names.proofs.name.Name.label_count.Goals as goal

pub returns : goal.returns
returns c = sym (count_is c.args.self.now)
