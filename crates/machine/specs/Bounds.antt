-- How many queries one question may cost, and in how many seconds it ends. Assumes nothing.
use Rattle.std.specs.Prelude.{◌≡◌, ℕ, ◌+◌, ◌*◌, ◌<◌, ◌≤◌, max, Bool, true, false, cond, not, ◌&&◌, List, [], ◌∷◌, ◌++◌, length, Some, None, Ok, Option, is_some, is_none, nat_eq}
use mathlib.Core.List.{Memᴰ}
use Rattle.protocol.specs.Lists.{first, kept, any}
use Rattle.protocol.specs.Words.{Name, Server}
use Rattle.protocol.specs.World.{Rules, Query, Response, Event, Tick, may_draw, world, May}
use Rattle.protocol.specs.Walks.{remembered}
use Rattle.machine.specs.Machine.{max_walks, max_words, max_tries, max_pending, Tried, Question, Pending, State, Answer, Shown, first_state, is_word, tried_of, count_of, Standing, Done, Awaits, Wants, standing, shown_as, question, begin, is_done, settle_in, settle, is_waiting, Sent, draw, Heard, hear, tick}
use Rattle.machine.specs.Refine.{is_outside, sends, hearing, Joint}

-- ---- one call

-- a call of the machine, or what others do, from a state of a run to the next
pub data Call (r : Rules) : State → List Event → State → List Event → Type 0 where
  to_begin : {st : State} {es : List Event} → (v : Question) → Call r st es (begin r v st).state es
  to_settle : {st : State} {es : List Event} → Call r st es (settle r st).state es
  to_draw : {st : State} {es : List Event} → (n : ℕ) → may_draw n (world r es) ≡ true → (s : Sent) → draw r n st ≡ Ok s → Call r st es s.state (sends s.query ++ es)
  to_hear : {st : State} {es : List Event} → (y : Response) → Memᴰ y (world r es).responses → (p : Pending) → first (λ (z : Pending). nat_eq z.query.id y.id) st.pending ≡ Some p → (h : Heard) → hear r y st ≡ Ok h → Call r st es h.state (hearing r st y p ++ es)
  to_tick : {st : State} {es : List Event} → Call r st es (tick r st) (Tick ∷ es)
  by_others : {st : State} {es : List Event} → (e : Event) → is_outside e ≡ true → May (world r es) e → Call r st es st (e ∷ es)

-- a run is its start, or a run and a call
pub data Comes (r : Rules) : State → List Event → Type 0 where
  at_start : Comes r first_state []
  by_call : {st : State} {es : List Event} {st' : State} {es' : List Event} → Joint r st es → Call r st es st' es' → Comes r st' es'

-- ---- one question

-- the place of a question among those under way: those before it, itself, those behind it
pub record Spot : Type 0 where
  pub before : List Question
  pub asked : Question
  pub behind : List Question

abbrev pub all_of : Spot → List Question
all_of x = x.before ++ (x.asked ∷ x.behind)

-- a call shows this question: it is done, and none before it is
abbrev pub shows_it : {r : Rules} {st : State} {es : List Event} {st' : State} {es' : List Event} → Call r st es st' es' → Spot → Bool
shows_it {r = r} {st = st} to_settle x = is_none (settle_in r st x.before).shown && is_some (is_done (standing r st x.asked))
shows_it (to_begin v) x = false
shows_it (to_draw n m s e) x = false
shows_it (to_hear y m p f h e) x = false
shows_it to_tick x = false
shows_it (by_others e o m) x = false

-- how many are before it after a call: one less if one of them is shown
abbrev pub still_before : {r : Rules} {st : State} {es : List Event} {st' : State} {es' : List Event} → Call r st es st' es' → List Question → ℕ
still_before {r = r} {st = st} to_settle us = length (settle_in r st us).walks
still_before (to_begin v) us = length us
still_before (to_draw n m s e) us = length us
still_before (to_hear y m p f h e) us = length us
still_before to_tick us = length us
still_before (by_others e o m) us = length us

-- a call that does not show a question leaves it under way, behind those that are still before it
pub record Stays (r : Rules) (st : State) (es : List Event) (st' : State) (es' : List Event) (c : Call r st es st' es') (x y : Spot) : Type 0 where
  pub not_shown : shows_it c x ≡ false
  pub walks_are : st'.walks ≡ all_of y
  pub place_is : length y.before ≡ still_before c x.before

abbrev pub wants : Rules → State → Question → Bool
wants r st u = is_waiting (standing r st u)

-- a drawn id goes to it: it wants a query, and none behind it does
abbrev pub is_next : Rules → State → Spot → Bool
is_next r st x = wants r st x.asked && not (any (wants r st) x.behind)

abbrev pub one_if : Bool → Option Query → ℕ
one_if b None = 0
one_if b (Some q) = cond b 1 0

-- queries sent for it by a call
abbrev pub sent_for : {r : Rules} {st : State} {es : List Event} {st' : State} {es' : List Event} → Call r st es st' es' → Spot → ℕ
sent_for {r = r} {st = st} (to_draw n m s e) x = one_if (is_next r st x) s.query
sent_for (to_begin v) x = 0
sent_for to_settle x = 0
sent_for (to_hear y m p f h e) x = 0
sent_for to_tick x = 0
sent_for (by_others e o m) x = 0

-- seconds that pass in a call
abbrev pub seconds_in : {r : Rules} {st : State} {es : List Event} {st' : State} {es' : List Event} → Call r st es st' es' → ℕ
seconds_in to_tick = 1
seconds_in (to_begin v) = 0
seconds_in to_settle = 0
seconds_in (to_draw n m s e) = 0
seconds_in (to_hear y m p f h e) = 0
seconds_in (by_others e o m) = 0

-- a question from its beginning on, through any calls that leave it under way: where it stands, how many queries were
-- sent for it, and how many seconds passed
pub data Life (r : Rules) : State → List Event → Spot → ℕ → ℕ → Type 0 where
  begun : {st : State} {es : List Event} → Joint r st es → (t : ℕ) (q : Name) (k : ℕ) → (begin r (question t q k) st).shown ≡ None →
      Life r (begin r (question t q k) st).state es (record { before = st.walks; asked = question t q k; behind = [] }) 0 0
  goes_on : {st : State} {es : List Event} {st' : State} {es' : List Event} {x y : Spot} {sent seconds : ℕ} →
      Life r st es x sent seconds → (c : Call r st es st' es') → Stays r st es st' es' c x y → Life r st' es' y (sent + sent_for c x) (seconds + seconds_in c)

-- ---- a machine that is looked after

abbrev pub is_awaiting : Standing → Bool
is_awaiting (Awaits a p) = true
is_awaiting (Done x n) = false
is_awaiting (Wants a p ss o) = false

-- what is done is shown before an id is drawn, and before a second passes ids are drawn until nothing is wanted: so the
-- question is not done at the one, and waits for a query at the other
abbrev pub in_time : {r : Rules} {st : State} {es : List Event} {st' : State} {es' : List Event} → Call r st es st' es' → Spot → Bool
in_time {r = r} {st = st} (to_draw n m s e) x = is_none (is_done (standing r st x.asked))
in_time {r = r} {st = st} to_tick x = is_awaiting (standing r st x.asked)
in_time (to_begin v) x = true
in_time to_settle x = true
in_time (to_hear y m p f h e) x = true
in_time (by_others e o m) x = true

-- at each call of a life
abbrev pub Tended : {r : Rules} {st : State} {es : List Event} {x : Spot} {sent seconds : ℕ} → Life r st es x sent seconds → Type 0
Tended (begun j t q k h) = Unit {0}
Tended (goes_on {x = x} l c k) = Tended l × (in_time c x ≡ true)

-- ---- what is promised

-- the most servers that are named for a zone: a referral has at most 16
abbrev pub most : Rules → ℕ
most r = max 16 (length r.roots)

-- no two tries are of one word
unfoldable pub one_a_word : List Tried → Bool
one_a_word [] = true
one_a_word (t ∷ ts) = not (any (is_word t.apex t.name) ts) && one_a_word ts

-- a question after a call: the same question, with every word that was tried and no count lower
pub record NoLess (u v : Question) : Type 0 where
  pub ticket_is : v.ticket ≡ u.ticket
  pub name_is : v.name ≡ u.name
  pub kind_is : v.kind ≡ u.kind
  pub words : (a p : Name) → tried_of a p v.tries ≡ None → tried_of a p u.tries ≡ None
  pub counts : (a p : Name) → count_of (tried_of a p u.tries) ≤ count_of (tried_of a p v.tries)

-- a query for a question adds one to the count of its word, which was below two for each server named
pub record Counted (r : Rules) (st : State) (u v : Question) : Type 0 where
  pub apex : Name
  pub name : Name
  pub servers : List Server
  pub wanted : standing r st u ≡ Wants apex name servers (tried_of apex name u.tries)
  pub few_servers : length servers ≤ most r
  pub left : count_of (tried_of apex name u.tries) < max_tries * length servers
  pub one_more : count_of (tried_of apex name v.tries) ≡ count_of (tried_of apex name u.tries) + 1

-- the question for whose word a query is sent, and no other
pub record SentFor (r : Rules) (st : State) (q : Query) : Type 0 where
  pub spot : Spot
  pub under_way : st.walks ≡ all_of spot
  pub next_one : is_next r st spot ≡ true
  pub servers : List Server
  pub wanted : standing r st spot.asked ≡ Wants q.apex q.name servers (tried_of q.apex q.name spot.asked.tries)
  pub kind_is : q.kind ≡ spot.asked.kind
  pub only : (x : Spot) → st.walks ≡ all_of x → is_next r st x ≡ true → x ≡ spot

-- a question that is shown, with the answer by which it is done
pub record EndsNow (r : Rules) (st : State) (u : Question) : Type 0 where
  pub answer : Answer
  pub left : ℕ
  pub done : standing r st u ≡ Done answer left
  pub shown : (settle r st).shown ≡ Some (shown_as u answer left)

pub record MachineBounds : Type 0 where
  -- runs are made of calls, and of nothing else
  pub calls : (r : Rules) (st : State) (es : List Event) (st' : State) (es' : List Event) → Joint r st es → Call r st es st' es' → Joint r st' es'
  pub only_calls : (r : Rules) (st : State) (es : List Event) → Joint r st es → Comes r st es
  -- a life is of a question under way in a run, and goes on by every call that doesn't show the question: no call escapes
  pub in_run : (r : Rules) (st : State) (es : List Event) (x : Spot) (m n : ℕ) → Life r st es x m n → Joint r st es × (st.walks ≡ all_of x)
  pub onward : (r : Rules) (st : State) (es : List Event) (st' : State) (es' : List Event) (x : Spot) → st.walks ≡ all_of x → (c : Call r st es st' es') → shows_it c x ≡ false → (y : Spot) × Stays r st es st' es' c x y
  pub one_place : (r : Rules) (st : State) (es : List Event) (st' : State) (es' : List Event) (c : Call r st es st' es') (x y z : Spot) → Stays r st es st' es' c x y → Stays r st es st' es' c x z → y ≡ z
  pub ends : (r : Rules) (st : State) (es : List Event) (st' : State) (es' : List Event) (x : Spot) → st.walks ≡ all_of x → (c : Call r st es st' es') → shows_it c x ≡ true → EndsNow r st x.asked
  -- every query that is sent is sent for one question under way
  pub sent_for_one : (r : Rules) (st : State) (n : ℕ) (s : Sent) (q : Query) → draw r n st ≡ Ok s → s.query ≡ Some q → SentFor r st q
  -- no call forgets a word that was tried or lowers a count
  pub no_less : (r : Rules) (st : State) (es : List Event) (st' : State) (es' : List Event) (x y : Spot) → st.walks ≡ all_of x → (c : Call r st es st' es') → Stays r st es st' es' c x y → NoLess x.asked y.asked
  -- at most 24 words are tried, and no two tries are of one word
  pub few_words : (r : Rules) (st : State) (es : List Event) (x : Spot) (m n : ℕ) → Life r st es x m n → (length x.asked.tries ≤ max_words) × (one_a_word x.asked.tries ≡ true)
  -- a count stops at 64, so the root may have at most 32 servers: then each query sent for a question is counted
  pub each_counts : (r : Rules) → length r.roots ≤ 32 → (st : State) (es : List Event) (st' : State) (es' : List Event) (x y : Spot) (m n : ℕ) → Life r st es x m n → (c : Call r st es st' es') → Stays r st es st' es' c x y → sent_for c x ≡ 1 → Counted r st x.asked y.asked
  -- so at most two for each server of 24 words are sent: 768, if the root has no more than 16 servers
  pub sent_few : (r : Rules) → length r.roots ≤ 32 → (st : State) (es : List Event) (x : Spot) (m n : ℕ) → Life r st es x m n → m ≤ max_words * (max_tries * most r)
  -- at most one query is pending for a word, and none for a word that is remembered and counts
  pub one_pending : (r : Rules) (st : State) (es : List Event) → Joint r st es → (x z : Pending) → Memᴰ x st.pending → Memᴰ z st.pending → z.query.apex ≡ x.query.apex → z.query.name ≡ x.query.name → z.query.kind ≡ x.query.kind → x ≡ z
  pub none_known : (r : Rules) (st : State) (es : List Event) → Joint r st es → (x : Pending) → Memᴰ x st.pending → remembered r st.now st.cache x.query.kind x.query.apex x.query.name ≡ None
  -- so no more are pending than questions are under way, and 16 for each second of patience: where a question wants a
  -- query, one of the 96 places is free
  pub places : (r : Rules) (st : State) (es : List Event) → Joint r st es → length st.pending ≤ max_walks * r.patience + length st.walks
  pub place_left : (r : Rules) (st : State) (es : List Event) → r.patience ≤ 5 → Joint r st es → (u : Question) → Memᴰ u st.walks → wants r st u ≡ true → length st.pending < max_pending
  -- a machine is looked after by what it shows: where nothing is shown no question is done, and where a drawn id isn't
  -- used either every question waits for a query
  pub none_done : (r : Rules) (st : State) → (settle r st).shown ≡ None → (u : Question) → Memᴰ u st.walks → is_done (standing r st u) ≡ None
  pub all_wait : (r : Rules) (st : State) (es : List Event) → r.patience ≤ 5 → Joint r st es → (settle r st).shown ≡ None → (n : ℕ) (s : Sent) → draw r n st ≡ Ok s → s.query ≡ None → (u : Question) → Memᴰ u st.walks → is_awaiting (standing r st u) ≡ true
  -- and both come about: each question that is shown leaves fewer under way, and each query that is sent leaves fewer that
  -- want one, and makes none done
  pub fewer_left : (r : Rules) (st : State) (x : Shown) → (settle r st).shown ≡ Some x → length (settle r st).state.walks < length st.walks
  pub fewer_want : (r : Rules) (st : State) (n : ℕ) (s : Sent) (q : Query) → draw r n st ≡ Ok s → s.query ≡ Some q → length (kept (wants r s.state) s.state.walks) < length (kept (wants r st) st.walks)
  pub still_none : (r : Rules) (st : State) (es : List Event) → Joint r st es → (settle r st).shown ≡ None → (n : ℕ) → may_draw n (world r es) ≡ true → (s : Sent) → draw r n st ≡ Ok s → (settle r s.state).shown ≡ None
  -- if it is looked after, a question ends: at most twice the patience and a second lie between one growth of its counts
  -- and the next. That is 8,454 seconds, if the root has no more than 16 servers and the patience is five seconds
  pub ends_soon : (r : Rules) → length r.roots ≤ 32 → (st : State) (es : List Event) (x : Spot) (m n : ℕ) → (l : Life r st es x m n) → Tended l → n ≤ max_words * (max_tries * most r) * (2 * r.patience + 1) + (r.patience + 1)
