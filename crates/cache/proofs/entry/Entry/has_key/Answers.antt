use Rattle.std.proofs.Common.{rules}
use Rattle.meaning.proofs.Rules.{told_same}
use Rattle.cache.proofs.entry.Entry.has_key.Goals as goal

pub returns : goal.returns
returns c = search (rules, told_same)
