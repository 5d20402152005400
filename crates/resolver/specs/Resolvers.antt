-- What the code's resolver stands for.
use Rattle.std.specs.Prelude.{◌≡◌, ⊤, ℕ, List, [], map, vec_items, Option}
use Rattle.std.specs.Option.{option_map}
use Rattle.std.specs.List.{slice_get}
use Rattle.names.specs.Names.{labels}
use Rattle.records.specs.Contents.{bytes_of}
use Rattle.protocol.specs.Words.{Server}
use Rattle.protocol.specs.World.{Rules, rules_of, Entry}
use Rattle.machine.specs.Machine as machine
use Rattle.cache.specs.Caches.{entries_of}
use Rattle.cache.specs.Entries.{rules}
use Rattle.walks.specs.Ways.{outcome_at, servers_at}
use Rattle.questions.specs.declared.tried.Tried.{Tried}
use Rattle.questions.specs.Tries.{question_of, tried_for}
use Rattle.questions.specs.Tables.{table_of}
use Rattle.resolver.specs.declared.answer.Answer.{Answer}
use Rattle.resolver.specs.declared.answer.Answer.TheVariants as rust
use Rattle.resolver.specs.declared.answer.Shown as declared
use Rattle.resolver.specs.declared.answer.Standing.{Standing}
use Rattle.resolver.specs.declared.answer.Standing.TheVariants as stands
use Rattle.resolver.specs.declared.resolver.Resolver.{Resolver}

abbrev pub roots_of : Resolver → List Server
roots_of x = map bytes_of (vec_items x.roots)

abbrev pub rules_for : Resolver → Rules
rules_for x = rules_of (roots_of x)

abbrev pub state_of : Resolver → machine.State
state_of x = record { now = x.moment.0; pending = table_of x.pending; cache = entries_of x.cache; walks = map question_of x.walks }

abbrev pub one_tried : Option Tried → Option machine.Tried
one_tried o = option_map tried_for o

-- answers point into the cache
abbrev pub answer_for : List Entry → Answer → machine.Answer
answer_for es (rust.At i) = machine.Answered (outcome_at (slice_get es i))
answer_for es rust.TooLong = machine.Endless
answer_for es rust.Nowhere = machine.Nowhere

abbrev pub shown_for : List Entry → declared.Shown → machine.Shown
shown_for es s = record { ticket = s.request.ticket; name = labels s.request.name; kind = s.request.kind.number; answer = answer_for es s.outcome.answer; left = s.outcome.left }

abbrev pub standing_for : List Server → List Entry → Standing → machine.Standing
standing_for roots es (stands.Done x) = machine.Done (answer_for es x.answer) x.left
standing_for roots es (stands.Awaits key) = machine.Awaits (labels key.apex) (labels key.name)
standing_for roots es (stands.Wants w) = machine.Wants (labels w.key.apex) (labels w.key.name) (servers_at roots es w.referral) (one_tried w.tried)

-- a query that is wanted, or waited for, is for this kind
abbrev pub WantsKind : ℕ → Standing → Type 0
WantsKind k (stands.Done x) = ⊤
WantsKind k (stands.Awaits key) = key.kind.number ≡ k
WantsKind k (stands.Wants w) = w.key.kind.number ≡ k

-- a query's try counted for a question, by what the cache has at a moment
abbrev pub count_by : ℕ → List Entry → machine.Pending → machine.Question → machine.Question
count_by now es x u = machine.count_try rules (record { now = now; pending = []; cache = es; walks = [] }) x u
