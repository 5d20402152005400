-- A resolver in the world: the runs that its calls are a part of, and what it shows in them.
use Rattle.std.specs.Prelude.{◌≡◌, ℕ, ◌≤◌, true, List, [], ◌∷◌, ◌++◌, Some, None, Ok, Err, Option, Result}
use mathlib.Core.List.{Memᴰ}
use Rattle.names.specs.declared.fault.Fault.{Fault}
use Rattle.protocol.specs.World.{Event, Asks, Hears, Forgets, Response, may_draw, world}
use Rattle.machine.specs.Machine.{State}
use Rattle.machine.specs.Refine.{Joint, Showing, Refines}
use Rattle.machine.specs.Bounds.{Spot, Life, Tended}
use Rattle.cache.specs.Caches.{entries_of}
use Rattle.questions.specs.declared.query.Query.{Query}
use Rattle.questions.specs.Queries.{query_of}
use Rattle.resolver.specs.declared.answer.Shown.{Shown}
use Rattle.resolver.specs.declared.resolver.Resolver.{Resolver}
use Rattle.resolver.specs.declared.resolver.hear.Heard.{Heard}
use Rattle.resolver.specs.declared.resolver.hear.Heard.TheVariants as rust
use Rattle.resolver.specs.Resolvers.{rules_for, state_of, shown_for}

-- calls led to this resolver while the world went by these events, the latest first
abbrev pub Runs : Resolver → List Event → Type 0
Runs x es = Joint (rules_for x) (state_of x) es

-- in each of its runs what a resolver shows keeps the promise: it is fresh, and where owners rest it is what is meant
abbrev pub Keeps : Resolver → Option Shown → Type 0
Keeps x None = Unit {0}
Keeps x (Some s) = (es : List Event) → Runs x es → Showing (rules_for x) (world (rules_for x) es) (shown_for (entries_of x.cache) s)

abbrev pub KeepsIfOk : Resolver → Result (Option Shown) Fault → Type 0
KeepsIfOk x (Ok o) = Keeps x o
KeepsIfOk x (Err f) = Unit {0}

-- a call that changes nothing of the world
abbrev pub GoesOn : Resolver → Resolver → Type 0
GoesOn x y = (es : List Event) → Runs x es → Runs y es

-- what an id that was never drawn sends is an event of the world
abbrev pub asked : Result (Option Query) Fault → List Event
asked (Ok (Some q)) = Asks (query_of q).id (query_of q).server (query_of q).apex (query_of q).name (query_of q).kind ∷ []
asked (Ok None) = []
asked (Err f) = []

abbrev pub GoesOnAsking : Resolver → ℕ → Result (Option Query) Fault → Resolver → Type 0
GoesOnAsking x n result y = (es : List Event) → Runs x es → may_draw n (world (rules_for x) es) ≡ true → Runs y (asked result ++ es)

-- a response that was said is heard; where something was forgotten for it, that came before
abbrev pub HeardIn : List Event → Response → Result Heard Fault → Resolver → Type 0
HeardIn es r (Ok rust.Kept) y = Runs y (Hears r ∷ es)
HeardIn es r (Ok rust.Ousted) y = (a q : List (List ℕ)) × (k : ℕ) × Runs y (Hears r ∷ Forgets a q k ∷ es)
HeardIn es r (Err f) y = Runs y es

abbrev pub GoesOnHearing : Resolver → Response → Result Heard Fault → Resolver → Type 0
GoesOnHearing x r result y = (es : List Event) → Runs x es → Memᴰ r (world (rules_for x) es).responses → HeardIn es r result y

-- every run of a resolver is one of the world, which keeps the promise
abbrev pub RunsRefine : Type 0
RunsRefine = (x : Resolver) (es : List Event) → Runs x es → Refines (rules_for x) (state_of x) es

-- the life of a question by the rules of a resolver: how many queries are sent for it, and how many seconds it lasts
pub record RunsBounded : Type 0 where
  pub sent_few : (x : Resolver) (st : State) (es : List Event) (p : Spot) (m n : ℕ) → Life (rules_for x) st es p m n → m ≤ 768
  pub ends_soon : (x : Resolver) (st : State) (es : List Event) (p : Spot) (m n : ℕ) → (l : Life (rules_for x) st es p m n) → Tended l → n ≤ 8454
