-- The machine in the world: which states of the world a state of the machine stands for, and their runs together. Assumes nothing.
use Rattle.std.specs.Prelude.{◌≡◌, ℕ, ◌≤◌, Bool, true, false, List, [], ◌∷◌, ◌++◌, length, Some, None, Ok, Option, nat_eq, slice_index_or}
use mathlib.Core.List.{Memᴰ}
use Rattle.protocol.specs.Lists.{first}
use Rattle.protocol.specs.Words.{Outcome}
use Rattle.protocol.specs.World.{Rules, Query, Response, Entry, World, Event, Tick, Publishes, OffersOwn, OffersCopy, Takes, Asks, Responds, Hears, Forgets, may_draw, entry_for, world, May, Brought}
use Rattle.protocol.specs.Walks.{Shows, TooLong, meant, shown, least_left}
use Rattle.protocol.specs.Promise.{Fresh, Rested, Promise}
use Rattle.machine.specs.Store.{max_entries, one_a_key, Put, Kept, Ousted, NoRoom, put}
use Rattle.machine.specs.Machine.{max_walks, Question, Pending, State, first_state, queries_of, Answered, Endless, Nowhere, Shown, begin, settle, Sent, draw, in_use, Heard, hear, tick}

abbrev pub SameMembers : {A : Type 0} → List A → List A → Type 0
SameMembers {A} xs ys = (x : A) → (Memᴰ x xs → Memᴰ x ys) × (Memᴰ x ys → Memᴰ x xs)

-- the same time, pending queries and entries, in whatever order
pub record Stands (st : State) (w : World) : Type 0 where
  pub now_is : st.now ≡ w.now
  pub pending_is : SameMembers (queries_of st.pending) w.pending
  pub cache_is : SameMembers st.cache w.cache
  pub keys : one_a_key st.cache ≡ true
  pub room : length st.cache ≤ max_entries
  pub few : length st.walks ≤ max_walks

-- what others do
abbrev pub is_outside : Event → Bool
is_outside (Publishes z) = true
is_outside (OffersOwn a) = true
is_outside (OffersCopy s a) = true
is_outside (Takes s o m) = true
is_outside (Responds q) = true
is_outside Tick = false
is_outside (Asks n s a q k) = false
is_outside (Hears x) = false
is_outside (Forgets a q k) = false

-- the events for which the machine's steps stand
abbrev pub sends : Option Query → List Event
sends None = []
sends (Some q) = Asks q.id q.server q.apex q.name q.kind ∷ []

abbrev pub drops : List Entry → Entry → Put → List Event
drops es e (Ousted i fs) = Forgets (slice_index_or es i e).apex (slice_index_or es i e).name (slice_index_or es i e).kind ∷ []
drops es e (Kept fs) = []
drops es e NoRoom = []

-- a full cache forgets, then hears
abbrev pub hearing : Rules → State → Response → Pending → List Event
hearing r st y x = Hears y ∷ drops st.cache (entry_for st.now x.query y.word) (put r (in_use r st) (entry_for st.now x.query y.word) st.cache)

-- any sequence of calls, in a world where others do what they like: ids that were never drawn, responses that were said
pub data Joint (r : Rules) : State → List Event → Type 0 where
  starts : Joint r first_state []
  begins : {st : State} {es : List Event} → Joint r st es → (u : Question) → Joint r (begin r u st).state es
  settles : {st : State} {es : List Event} → Joint r st es → Joint r (settle r st).state es
  draws : {st : State} {es : List Event} → Joint r st es → (n : ℕ) → may_draw n (world r es) ≡ true → (s : Sent) → draw r n st ≡ Ok s → Joint r s.state (sends s.query ++ es)
  hears : {st : State} {es : List Event} → Joint r st es → (y : Response) → Memᴰ y (world r es).responses → (x : Pending) → first (λ (p : Pending). nat_eq p.query.id y.id) st.pending ≡ Some x → (h : Heard) → hear r y st ≡ Ok h → Joint r h.state (hearing r st y x ++ es)
  ticks : {st : State} {es : List Event} → Joint r st es → Joint r (tick r st) (Tick ∷ es)
  others : {st : State} {es : List Event} → Joint r st es → (e : Event) → is_outside e ≡ true → May (world r es) e → Joint r st (e ∷ es)

-- what the machine shows of a question, in a world
pub record Showing (r : Rules) (w : World) (x : Shown) : Type 0 where
  -- an answer is what the walk by the cache shows, by words that are fresh, for the least that is left of their times
  pub answered : (o : Outcome) → x.answer ≡ Answered o → ((shown r w x.name x.kind).end ≡ Shows o) × (x.left ≡ least_left r w.now (shown r w x.name x.kind).words)
  pub endless : x.answer ≡ Endless → ((shown r w x.name x.kind).end ≡ TooLong) × (x.left ≡ least_left r w.now (shown r w x.name x.kind).words)
  -- nowhere is told for no time
  pub nowhere : x.answer ≡ Nowhere → x.left ≡ 0
  pub fresh : (e : Entry) → Memᴰ e (shown r w x.name x.kind).words → Fresh r w e
  -- where owners rest, an answer is what the question means
  pub settled : (o : Outcome) → x.answer ≡ Answered o → Rested r w → (meant w x.name x.kind).end ≡ Shows o
  pub settled_endless : x.answer ≡ Endless → Rested r w → (meant w x.name x.kind).end ≡ TooLong

-- every sequence of calls is the resolver's part of a run of the world, and what it shows keeps the promise
pub record Refines (r : Rules) (st : State) (es : List Event) : Type 0 where
  pub brought : Brought r es
  pub stands : Stands st (world r es)
  pub promise : Promise r es
  pub shows : (x : Shown) → (settle r st).shown ≡ Some x → Showing r (world r es) x
  pub shows_at_once : (u : Question) (x : Shown) → (begin r u st).shown ≡ Some x → Showing r (world r es) x

abbrev pub MachineRefines : Type 0
MachineRefines = (r : Rules) (st : State) (es : List Event) → Joint r st es → Refines r st es
