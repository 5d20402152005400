-- The resolver as a machine: its state, and what each call makes of it. Assumes nothing.
use Rattle.std.specs.Prelude.{ℕ, ◌+◌, ◌*◌, ◌%◌, Bool, true, false, cond, not, ◌&&◌, List, [], ◌∷◌, ◌++◌, map, length, Some, None, Ok, Err, Option, Result, ◌==◌, nat_eq, nat_le, nat_lt, slice_index_or}
use Rattle.std.specs.Option.{option_or}
use Rattle.names.specs.declared.fault.Fault.{Fault}
use Rattle.names.specs.declared.fault.Fault.TheVariants.{Malformed, BadData, Misplaced, Conflict, TooMuch, NotPending, WrongApex}
use Rattle.names.specs.Order.{within}
use Rattle.meaning.specs.Model.{delegates, aliases, fits}
use Rattle.meaning.specs.Says.{same}
use Rattle.meaning.specs.Speech.{Said, Found, AliasTo, Referred, Empty, Absent}
use Rattle.protocol.specs.Lists.{first, kept, any}
use Rattle.protocol.specs.Words.{Name, Server, Word, Outcome}
use Rattle.protocol.specs.World.{Rules, Query, Response, Entry, is_key, entry_for, query_for}
use Rattle.protocol.specs.Walks.{End, Shows, LacksAt, TooLong, Walk, shown_by, least_left}
use Rattle.machine.specs.Store.{Put, Kept, Ousted, NoRoom, put}

-- ---- numbers

-- walks under way, words of a question, times that each server is asked for a word, queries pending
abbrev pub max_walks : ℕ
max_walks = 16

abbrev pub max_words : ℕ
max_words = 24

abbrev pub max_tries : ℕ
max_tries = 2

abbrev pub max_pending : ℕ
max_pending = 96

-- ---- state

-- how often a word was asked for on behalf of a question, the place of the last server, and the last query
pub record Tried : Type 0 where
  pub apex : Name
  pub name : Name
  pub count : ℕ
  pub place : ℕ
  pub id : ℕ

-- a question under way; nothing is kept of its walk, which is made anew from the root each time
pub record Question : Type 0 where
  pub ticket : ℕ
  pub name : Name
  pub kind : ℕ
  pub tries : List Tried

-- a query and the place of its server among those named
pub record Pending : Type 0 where
  pub query : Query
  pub place : ℕ

pub record State : Type 0 where
  pub now : ℕ
  pub pending : List Pending
  pub cache : List Entry
  pub walks : List Question

abbrev pub first_state : State
first_state = record { now = 0; pending = []; cache = []; walks = [] }

abbrev pub queries_of : List Pending → List Query
queries_of ps = map (λ (p : Pending). p.query) ps

-- what is shown of a question; nowhere is shown where nothing could be had
pub data Answer : Type 0 where
  Answered : (outcome : Outcome) → Answer
  Endless : Answer
  Nowhere : Answer

pub record Shown : Type 0 where
  pub ticket : ℕ
  pub name : Name
  pub kind : ℕ
  pub answer : Answer
  -- for how long it may be remembered
  pub left : ℕ

-- ---- where a question stands

abbrev pub walk_of : Rules → State → Question → Walk Entry
walk_of r st u = shown_by r st.now st.cache u.name u.kind

-- the servers that are named for a zone: the root's, or those of the referral by which the walk came to it
abbrev pub servers_by : List Server → Said → List Server
servers_by roots (Referred n d) = d.servers
servers_by roots (Found c) = roots
servers_by roots (AliasTo n) = roots
servers_by roots Empty = roots
servers_by roots Absent = roots

unfoldable pub servers_after : List Server → List Server → List Entry → List Server
servers_after roots named [] = named
servers_after roots named (e ∷ es) = servers_after roots (servers_by roots e.word.said) es

abbrev pub servers_on : Rules → List Entry → List Server
servers_on r es = servers_after r.roots r.roots es

abbrev pub is_word : Name → Name → Tried → Bool
is_word a p t = same t.apex a && same t.name p

abbrev pub tried_of : Name → Name → List Tried → Option Tried
tried_of a p ts = first (is_word a p) ts

abbrev pub count_of : Option Tried → ℕ
count_of None = 0
count_of (Some t) = t.count

-- the question would need more words than any may
abbrev pub too_many : Option Tried → List Tried → Bool
too_many (Some t) ts = false
too_many None ts = nat_le max_words (length ts)

-- each named server was asked twice
abbrev pub exhausted : List Server → Option Tried → Bool
exhausted ss o = nat_le (max_tries * length ss) (count_of o)

abbrev pub is_for : Name → Name → ℕ → Pending → Bool
is_for a p k x = same x.query.apex a && same x.query.name p && x.query.kind == k

abbrev pub pending_for : Name → Name → ℕ → List Pending → Option Pending
pending_for a p k ps = first (is_for a p k) ps

-- a question is done, waits for a query that is pending, or wants one to be sent
pub data Standing : Type 0 where
  Done : (answer : Answer) → (left : ℕ) → Standing
  Awaits : (apex : Name) → (name : Name) → Standing
  Wants : (apex : Name) → (name : Name) → (servers : List Server) → (tried : Option Tried) → Standing

-- the pending query was counted last for this question
abbrev pub is_last : Option Tried → Pending → Bool
is_last None x = false
is_last (Some t) x = t.id == x.query.id

-- its last try may still be answered, but it doesn't wait for those of others
abbrev pub lacking : Name → Name → List Server → Option Tried → Option Pending → Standing
lacking a p ss o (Some x) = cond (exhausted ss o && not (is_last o x)) (Done Nowhere 0) (Awaits a p)
lacking a p ss o None = cond (exhausted ss o) (Done Nowhere 0) (Wants a p ss o)

abbrev pub standing_by : Rules → State → Question → List Entry → End → Standing
standing_by r st u ws (Shows o) = Done (Answered o) (least_left r st.now ws)
standing_by r st u ws TooLong = Done Endless (least_left r st.now ws)
standing_by r st u ws (LacksAt a p) =
    cond (too_many (tried_of a p u.tries) u.tries) (Done Nowhere 0)
    (lacking a p (servers_on r ws) (tried_of a p u.tries) (pending_for a p u.kind st.pending))

unfoldable pub standing : Rules → State → Question → Standing
standing r st u = standing_by r st u (walk_of r st u).words (walk_of r st u).end

abbrev pub shown_as : Question → Answer → ℕ → Shown
shown_as u x n = record { ticket = u.ticket; name = u.name; kind = u.kind; answer = x; left = n }

abbrev pub with_walks : List Question → State → State
with_walks us st = record { now = st.now; pending = st.pending; cache = st.cache; walks = us }

-- ---- a question begins

abbrev pub question : ℕ → Name → ℕ → Question
question t q k = record { ticket = t; name = q; kind = k; tries = [] }

pub record Began : Type 0 where
  pub state : State
  pub shown : Option Shown

abbrev pub begin_by : Question → State → Standing → Began
begin_by u st (Done x n) = record { state = st; shown = Some (shown_as u x n) }
begin_by u st (Awaits a p) = record { state = with_walks (st.walks ++ (u ∷ [])) st; shown = None }
begin_by u st (Wants a p ss o) = record { state = with_walks (st.walks ++ (u ∷ [])) st; shown = None }

-- one that finds 16 walks under way shows nowhere at once; one that the cache answers takes no place
unfoldable pub begin : Rules → Question → State → Began
begin r u st = cond (nat_le max_walks (length st.walks)) (record { state = st; shown = Some (shown_as u Nowhere 0) }) (begin_by u st (standing r st u))

-- ---- a question that is done is shown, and ends

abbrev pub is_done : Standing → Option (Answer × ℕ)
is_done (Done x n) = Some (x, n)
is_done (Awaits a p) = None
is_done (Wants a p ss o) = None

pub record Settled : Type 0 where
  pub walks : List Question
  pub shown : Option Shown

abbrev pub settle_on : Question → List Question → Option (Answer × ℕ) → Settled → Settled
settle_on u us (Some x) rest = record { walks = us; shown = Some (shown_as u x.0 x.1) }
settle_on u us None rest = record { walks = u ∷ rest.walks; shown = rest.shown }

-- the first that is done
unfoldable pub settle_in : Rules → State → List Question → Settled
settle_in r st [] = record { walks = []; shown = None }
settle_in r st (u ∷ us) = settle_on u us (is_done (standing r st u)) (settle_in r st us)

abbrev pub settle : Rules → State → Began
settle r st = record { state = with_walks (settle_in r st st.walks).walks st; shown = (settle_in r st st.walks).shown }

-- ---- tries

-- a count goes no further where no try can follow: two for each of at most 16 servers are far fewer
abbrev pub count_up : ℕ → ℕ
count_up n = cond (nat_lt n 64) (n + 1) n

-- one more try for a word, at a place, by a query
unfoldable pub try_more : Name → Name → ℕ → ℕ → List Tried → List Tried
try_more a p at n [] = record { apex = a; name = p; count = 1; place = at; id = n } ∷ []
try_more a p at n (t ∷ ts) =
    cond (is_word a p t)
    (cond (t.id == n) (t ∷ ts) (record { apex = t.apex; name = t.name; count = count_up t.count; place = at; id = n } ∷ ts))
    (t ∷ try_more a p at n ts)

-- a walk of a kind lacks the word of a query
abbrev pub lacks_for : Pending → ℕ → End → Bool
lacks_for x k (LacksAt c q) = is_for c q k x
lacks_for x k (Shows o) = false
lacks_for x k TooLong = false

-- a query counts as a try, once, for every question that then lacks its word and may use it
abbrev pub count_try : Rules → State → Pending → Question → Question
count_try r st x u =
    cond (lacks_for x u.kind (walk_of r st u).end && not (too_many (tried_of x.query.apex x.query.name u.tries) u.tries))
    (record { ticket = u.ticket; name = u.name; kind = u.kind; tries = try_more x.query.apex x.query.name x.place x.query.id u.tries })
    u

abbrev pub count_tries : Rules → State → Pending → List Question → List Question
count_tries r st x us = map (count_try r st x) us

-- ---- a drawn id

-- the first server is at the place id modulo how many, the next ones follow
abbrev pub place_for : ℕ → ℕ → Option Tried → ℕ
place_for n many None = n % many
place_for n many (Some t) = (t.place % many + 1) % many

pub record Sent : Type 0 where
  pub state : State
  pub query : Option Query

-- the last element that passes a test
unfoldable pub last_of : {A : Type 0} → (A → Bool) → List A → Option A
last_of test [] = None
last_of test (x ∷ xs) = option_or (last_of test xs) (cond (test x) (Some x) None)

abbrev pub is_waiting : Standing → Bool
is_waiting (Done x n) = false
is_waiting (Awaits a p) = false
is_waiting (Wants a p ss o) = true

abbrev pub send : Rules → State → Pending → Sent
send r st x = record { state = record { now = st.now; pending = st.pending ++ (x ∷ []); cache = st.cache; walks = count_tries r st x st.walks }; query = Some x.query }

abbrev pub send_for : Rules → ℕ → State → Question → Standing → Sent
send_for r n st u (Wants a p ss o) = send r st (record { query = query_for n (slice_index_or ss (place_for n (length ss) o) []) a p u.kind st.now; place = place_for n (length ss) o })
send_for r n st u (Done x m) = record { state = st; query = None }
send_for r n st u (Awaits a p) = record { state = st; query = None }

abbrev pub send_on : Rules → ℕ → State → Option Question → Sent
send_on r n st None = record { state = st; query = None }
send_on r n st (Some u) = send_for r n st u (standing r st u)

abbrev pub is_pending : ℕ → List Pending → Bool
is_pending n ps = any (λ (x : Pending). nat_eq x.query.id n) ps

-- the id goes to the youngest question that wants a query, so that none is held up by those before it; an id that is
-- pending still is refused
unfoldable pub draw : Rules → ℕ → State → Result Sent Fault
draw r n st =
    cond (is_pending n st.pending) (Err Malformed)
    (cond (nat_le max_pending (length st.pending)) (Ok (record { state = st; query = None }))
    (Ok (send_on r n st (last_of (λ u. is_waiting (standing r st u)) st.walks))))

-- ---- a response

-- what can be no answer of that zone to that query
abbrev pub misfit : Query → Said → Option Fault
misfit q (Found c) = cond (fits q.kind c && not (delegates q.kind)) None (Some BadData)
misfit q (AliasTo n) = cond (aliases q.kind) (Some BadData) None
misfit q (Referred n d) =
    cond (not (nat_le 1 (length d.servers) && nat_le (length d.servers) 16)) (Some BadData)
    (cond (not (within q.apex n && within n q.name)) (Some Misplaced)
    (cond (nat_le (length n) (length q.apex)) (Some Conflict) None))
misfit q Empty = None
misfit q Absent = None

-- an entry is in use if a walk under way goes by it
abbrev pub used_by : Rules → State → Entry → Question → Bool
used_by r st e u = any (λ (f : Entry). is_key e.apex e.name e.kind f) (walk_of r st u).words

abbrev pub in_use : Rules → State → Entry → Bool
in_use r st e = any (used_by r st e) st.walks

pub record Heard : Type 0 where
  pub state : State
  -- whether something was forgotten to make room
  pub ousted : Bool

abbrev pub close_in : ℕ → List Pending → List Pending
close_in n ps = kept (λ (x : Pending). not (x.query.id == n)) ps

abbrev pub keep : Rules → State → Pending → List Entry → State
keep r st x es = record { now = st.now; pending = close_in x.query.id st.pending; cache = es; walks = count_tries r st x st.walks }

abbrev pub heard_by : Rules → State → Pending → Put → Result Heard Fault
heard_by r st x (Kept es) = Ok (record { state = keep r st x es; ousted = false })
heard_by r st x (Ousted i es) = Ok (record { state = keep r st x es; ousted = true })
heard_by r st x NoRoom = Err TooMuch

abbrev pub hear_fit : Rules → State → Pending → Word → Option Fault → Result Heard Fault
hear_fit r st x t (Some f) = Err f
hear_fit r st x t None = heard_by r st x (put r (in_use r st) (entry_for st.now x.query t) st.cache)

abbrev pub hear_for : Rules → State → Response → Option Pending → Result Heard Fault
hear_for r st y None = Err NotPending
hear_for r st y (Some x) = cond (same x.query.apex y.apex) (hear_fit r st x y.word (misfit x.query y.word.said)) (Err WrongApex)

unfoldable pub hear : Rules → Response → State → Result Heard Fault
hear r y st = hear_for r st y (first (λ (x : Pending). nat_eq x.query.id y.id) st.pending)

-- ---- a second passes

abbrev pub is_open : Rules → ℕ → Pending → Bool
is_open r now x = nat_le now (x.query.asked + r.patience)

-- each query that runs out counts for those that came to wait for it later
unfoldable pub count_all : Rules → State → List Pending → List Question → List Question
count_all r st [] us = us
count_all r st (x ∷ xs) us = count_all r st xs (count_tries r st x us)

unfoldable pub tick : Rules → State → State
tick r st = record {
  now = st.now + 1;
  pending = kept (is_open r (st.now + 1)) st.pending;
  cache = st.cache;
  walks = count_all r st (kept (λ x. not (is_open r (st.now + 1) x)) st.pending) st.walks;
}
