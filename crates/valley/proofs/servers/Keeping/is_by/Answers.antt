use Rattle.std.proofs.Common.{rules}
use Rattle.meaning.proofs.Rules.{told_same}
use Rattle.valley.proofs.servers.Keeping.is_by.Goals as goal

pub returns-then-self-server : goal.returns-then-self-server
returns-then-self-server c = search (rules, told_same)
