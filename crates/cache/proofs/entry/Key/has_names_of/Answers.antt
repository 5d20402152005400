use Rattle.std.proofs.Common.{rules}
use Rattle.meaning.proofs.Rules.{told_same}
use Rattle.cache.proofs.entry.Key.has_names_of.Goals as goal

pub returns-then-eq : goal.returns-then-eq
returns-then-eq c = search (rules, told_same)

pub returns-else-eq : goal.returns-else-eq
returns-else-eq c = search (rules, told_same)
