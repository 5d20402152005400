-- No state of the machine is a dead end: what is promised of the machine itself. Assumes nothing.
use Rattle.std.specs.Prelude.{◌≡◌, ℕ, zero, suc, ◌*◌, ◌<◌, ◌≤◌, Bool, true, false, ◌&&◌, ◌⊎◌, List, [], ◌∷◌, ◌++◌, length, Some, None, Option, ◌≢◌}
use mathlib.Core.List.{Memᴰ}
use Rattle.names.specs.Order.{within}
use Rattle.meaning.specs.Model.{delegates, fits, Set, Zone}
use Rattle.protocol.specs.Words.{Name, Server, Word, Goes, next}
use Rattle.protocol.specs.World.{Rules, Version, Entry, World, Event, Tick, Publishes, OffersOwn, OffersCopy, Takes, Asks, Responds, Hears, Forgets, world}
use Rattle.protocol.specs.Walks.{End, Shows, LacksAt, TooLong, by_owners, meant}
use Rattle.protocol.specs.Promise.{Lacks, Rested, AnyServer, HasCopy, Served, price, offers_in}
use Rattle.machine.specs.Store.{NoRoom, put}
use Rattle.machine.specs.Machine.{max_walks, max_pending, Question, Pending, State, Answer, Answered, Endless, Nowhere, Shown, pending_for, Done, standing, in_use, question, begin, tick}
use Rattle.machine.specs.Refine.{Joint}

-- a zone as its type has it: data fit their kinds, all is within the apex, and no delegation stands at the apex
abbrev pub SoundZone : Zone → Type 0
SoundZone z = (s : Set) → Memᴰ s z.sets → (fits s.kind s.content ≡ true) × (within z.apex s.name ≡ true) × (delegates s.kind ≡ true → s.name ≢ z.apex)

abbrev pub Sound : World → Type 0
Sound w = (v : Version) → Memᴰ v w.published → SoundZone v.zone

-- the answer that stands for the end of a walk
abbrev pub answer_of : End → Answer
answer_of (Shows o) = Answered o
answer_of TooLong = Endless
answer_of (LacksAt a p) = Nowhere

-- no query is pending for a word on the way
abbrev pub ClearNext : (Name → Name → Type 0) → Name → Option Word → Type 0
ClearNext go q None = Unit {0}
ClearNext go q (Some t) = (c p : Name) → next t.said q ≡ Goes c p → go c p

abbrev pub ClearFrom : List Pending → ℕ → (Name → Name → Option Word) → ℕ → Name → Name → Type 0
ClearFrom ps k f zero a q = Unit {0}
ClearFrom ps k f (suc n) a q = (pending_for a q k ps ≡ None) × ClearNext (λ c p. ClearFrom ps k f n c p) q (f a q)

abbrev pub Clear : State → World → Name → ℕ → Type 0
Clear st w q k = ClearFrom st.pending k (by_owners w k) 24 [] q

-- moves, where forgetting to make room is a part of hearing
abbrev pub is_step : Event → Bool
is_step (Forgets a q k) = true
is_step (OffersOwn a) = true
is_step (OffersCopy s a) = true
is_step (Takes s o m) = true
is_step (Asks n s a q k) = true
is_step (Responds q) = true
is_step (Hears x) = true
is_step Tick = false
is_step (Publishes z) = false

abbrev pub all_steps : List Event → Bool
all_steps [] = true
all_steps (e ∷ es) = is_step e && all_steps es

-- calls and moves after which a question is done, with what it means
pub record Answers (cost : ℕ) (r : Rules) (es : List Event) (u : Question) : Type 0 where
  pub moves : List Event
  pub after : State
  pub joint : Joint r after (moves ++ es)
  pub only_steps : all_steps moves ≡ true
  pub bound : price moves ≤ cost * length (meant (world r es) u.name u.kind).words
  pub offers : offers_in moves ≤ length (meant (world r es) u.name u.kind).words
  -- the question is under way, and done
  pub asked : Question
  pub under_way : Memᴰ asked after.walks
  pub ticket_is : asked.ticket ≡ u.ticket
  pub name_is : asked.name ≡ u.name
  pub kind_is : asked.kind ≡ u.kind
  pub left : ℕ
  pub done : standing r after asked ≡ Done (answer_of (meant (world r es) u.name u.kind).end) left

-- with room for one more walk, and no query pending on the way, a question is answered at once, or by so many moves a word
abbrev pub LiveFrom : (World → Server → Name → Type 0) → ℕ → Rules → State → List Event → Type 0
LiveFrom Can cost r st es =
    (t : ℕ) (q : Name) (k : ℕ) → length st.walks < max_walks → length st.pending < max_pending → Rested r (world r es) → Sound (world r es) → (Lacks (meant (world r es) q k).end → ⊥) → Served Can r (world r es) q k → Clear st (world r es) q k →
    ((x : Shown) × ((begin r (question t q k) st).shown ≡ Some x) × (x.answer ≡ answer_of (meant (world r es) q k).end)) ⊎ Answers cost r es (question t q k)

-- there is always room for a word that is heard: sixteen walks of 24 words use fewer than there are places
abbrev pub NeverFull : Rules → State → Type 0
NeverFull r st = (e : Entry) → put r (in_use r st) e st.cache ≢ NoRoom

-- six seconds pass
abbrev pub six_ticks : Rules → State → State
six_ticks r st = tick r (tick r (tick r (tick r (tick r (tick r st)))))

abbrev pub six_later : List Event → List Event
six_later es = Tick ∷ Tick ∷ Tick ∷ Tick ∷ Tick ∷ Tick ∷ es

pub record MachineLive : Type 0 where
  pub live : (r : Rules) (st : State) (es : List Event) → Joint r st es → LiveFrom AnyServer 4 r st es
  pub live_copied : (r : Rules) (st : State) (es : List Event) → Joint r st es → LiveFrom HasCopy 3 r st es
  -- where queries are in the way: after six seconds none is pending, so that every way is clear
  pub soon : (r : Rules) (st : State) (es : List Event) → r.patience ≡ 5 → Joint r st es → Joint r (six_ticks r st) (six_later es) × ((six_ticks r st).pending ≡ []) × (length (six_ticks r st).walks ≡ length st.walks)
  pub clear_empty : (st : State) → st.pending ≡ [] → (w : World) (q : Name) (k : ℕ) → Clear st w q k
  -- there is always room for a word that is heard
  pub room : (r : Rules) (st : State) (es : List Event) → Joint r st es → NeverFull r st
