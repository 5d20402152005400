-- What words and entries stand for.
use Rattle.std.specs.Prelude.{ℕ, [], map, vec_items}
use Rattle.names.specs.Names.{labels}
use Rattle.records.specs.Contents.{bytes_of, content_of}
use Rattle.meaning.specs.Speech as says
use Rattle.protocol.specs.Words as words
use Rattle.protocol.specs.World.{Rules, rules_of}
use Rattle.protocol.specs.World as world
use Rattle.cache.specs.declared.word.Said.{Said}
use Rattle.cache.specs.declared.word.Said.TheVariants as rust
use Rattle.cache.specs.declared.word.Word.{Word}
use Rattle.cache.specs.declared.word.Moment.{Moment}
use Rattle.cache.specs.declared.entry.Entry.{Entry}

abbrev pub said_of : Said → says.Said
said_of (rust.Data d) = says.Found (content_of d)
said_of (rust.Alias n) = says.AliasTo (labels n)
said_of (rust.Referral r) = says.Referred (labels r.name) (record { servers = map bytes_of (vec_items r.to.servers) })
said_of rust.NoData = says.Empty
said_of rust.NoName = says.Absent

abbrev pub word_of : Word → words.Word
word_of w = record { said = said_of w.said; ttl = w.ttl.0 }

abbrev pub entry_of : Entry → world.Entry
entry_of e = record {
  apex = labels e.key.apex;
  name = labels e.key.name;
  kind = e.key.kind.number;
  word = record { said = said_of e.said; ttl = e.numbers.ttl.0 };
  heard = e.numbers.heard.0;
  id = e.numbers.id.0;
  server = e.numbers.server.0;
}

-- times depend on the day alone, so these rules stand for those of any roots: `until rules e` and `until (rules_of roots) e` compute to the same
abbrev pub rules : Rules
rules = rules_of []

-- when an entry's turn to be forgotten comes: when it runs out, then when it was heard
abbrev pub turn_of : world.Entry → ℕ × Moment
turn_of e = (world.until rules e, record { 0 = e.heard })
