-- Owners with their histories, servers with copies, one resolver and a net; and whatever may happen. Assumes nothing.
use Rattle.std.specs.Prelude.{ℕ, ◌+◌, Bool, true, false, cond, not, ◌&&◌, leb, List, [], ◌∷◌, length, Some, None, Option, ◌==◌, nat_eq, nat_le, nat_lt}
use mathlib.Core.List.{Memᴰ}
use Rattle.names.specs.Order.{same_label, within}
use Rattle.meaning.specs.Model.{Zone, newer}
use Rattle.meaning.specs.Says.{same}
use Rattle.meaning.specs.Speech.{Said, Found, AliasTo, Referred, Empty, Absent}
use Rattle.protocol.specs.Lists.{first, kept, any}
use Rattle.protocol.specs.Words.{Name, Server, Word, tells}

-- day: no word is remembered for longer; patience: for how long a query is pending; roots: the servers of the root
pub record Rules : Type 0 where
  pub day : ℕ
  pub patience : ℕ
  pub roots : List Server

-- the numbers of this service, in seconds
abbrev pub rules_of : List Server → Rules
rules_of roots = record { day = 86400; patience = 5; roots = roots }

-- what an owner said from a moment on
pub record Version : Type 0 where
  pub moment : ℕ
  pub zone : Zone

-- a zone that some server offers, and a moment from which on its owner said it at least once
pub record Offer : Type 0 where
  pub zone : Zone
  pub moment : ℕ

pub record Copy : Type 0 where
  pub server : Server
  pub zone : Zone
  pub taken : ℕ

pub record Query : Type 0 where
  pub id : ℕ
  pub server : Server
  pub apex : Name
  pub name : Name
  pub kind : ℕ
  pub asked : ℕ

pub record Response : Type 0 where
  pub id : ℕ
  pub apex : Name
  pub word : Word

-- what is remembered: the word, when it was heard, and in response to which query to which server
pub record Entry : Type 0 where
  pub apex : Name
  pub name : Name
  pub kind : ℕ
  pub word : Word
  pub heard : ℕ
  pub id : ℕ
  pub server : Server

-- published: all versions of all zones, newest first; offered, sent, responses: all that ever was
pub record World : Type 0 where
  pub now : ℕ
  pub published : List Version
  pub offered : List Offer
  pub copies : List Copy
  pub sent : List Query
  pub pending : List Query
  pub responses : List Response
  pub cache : List Entry

abbrev pub start : World
start = record { now = 0; published = []; offered = []; copies = []; sent = []; pending = []; responses = []; cache = [] }

-- what may happen; Takes counts the copy from `since`, the moment of its own request, or earlier
pub data Event : Type 0 where
  Tick : Event
  Publishes : (zone : Zone) → Event
  OffersOwn : (apex : Name) → Event
  OffersCopy : (server : Server) → (apex : Name) → Event
  Takes : (server : Server) → (offer : Offer) → (since : ℕ) → Event
  Asks : (id : ℕ) → (server : Server) → (apex : Name) → (name : Name) → (kind : ℕ) → Event
  Responds : (query : Query) → Event
  Hears : (response : Response) → Event
  Forgets : (apex : Name) → (name : Name) → (kind : ℕ) → Event

-- ---- a world with one group of its fields changed

abbrev pub with_time : ℕ → List Query → World → World
with_time n qs w = record { now = n; published = w.published; offered = w.offered; copies = w.copies; sent = w.sent; pending = qs; responses = w.responses; cache = w.cache }

abbrev pub with_published : List Version → World → World
with_published vs w = record { now = w.now; published = vs; offered = w.offered; copies = w.copies; sent = w.sent; pending = w.pending; responses = w.responses; cache = w.cache }

abbrev pub with_offered : List Offer → World → World
with_offered os w = record { now = w.now; published = w.published; offered = os; copies = w.copies; sent = w.sent; pending = w.pending; responses = w.responses; cache = w.cache }

abbrev pub with_copies : List Copy → World → World
with_copies cs w = record { now = w.now; published = w.published; offered = w.offered; copies = cs; sent = w.sent; pending = w.pending; responses = w.responses; cache = w.cache }

abbrev pub with_query : Query → World → World
with_query q w = record { now = w.now; published = w.published; offered = w.offered; copies = w.copies; sent = q ∷ w.sent; pending = q ∷ w.pending; responses = w.responses; cache = w.cache }

abbrev pub with_responses : List Response → World → World
with_responses xs w = record { now = w.now; published = w.published; offered = w.offered; copies = w.copies; sent = w.sent; pending = w.pending; responses = xs; cache = w.cache }

abbrev pub with_cache : List Query → List Entry → World → World
with_cache qs es w = record { now = w.now; published = w.published; offered = w.offered; copies = w.copies; sent = w.sent; pending = qs; responses = w.responses; cache = es }

-- ---- owners

-- what the owner of an apex says now
unfoldable pub current : Name → List Version → Option Zone
current a [] = None
current a (v ∷ vs) = cond (same v.zone.apex a) (Some v.zone) (current a vs)

-- serials rise, so apex and serial name one version
abbrev pub rises : Zone → Option Zone → Bool
rises z None = true
rises z (Some y) = newer z.serial y.serial

abbrev pub publish : Zone → World → World
publish z w = cond (rises z (current z.apex w.published)) (with_published (record { moment = w.now; zone = z } ∷ w.published) w) w

-- ---- servers

abbrev pub lower : ℕ → ℕ → ℕ
lower a b = cond (nat_lt a b) a b

abbrev pub is_copy_at : Server → Name → Copy → Bool
is_copy_at s a c = same_label c.server s && same c.zone.apex a

-- a server's copy of a zone
abbrev pub copy_at : Server → Name → List Copy → Option Copy
copy_at s a cs = first (is_copy_at s a) cs

-- in place of the one that it had
abbrev pub with_copy : Copy → List Copy → List Copy
with_copy c cs = c ∷ kept (λ d. not (is_copy_at c.server c.zone.apex d)) cs

-- a copy is good up to and including its moment and its own zone's expire
abbrev pub unexpired : ℕ → Copy → Bool
unexpired now c = nat_le now (c.taken + c.zone.expire)

abbrev pub offer : Offer → World → World
offer o w = with_offered (o ∷ w.offered) w

-- the owner has its zone as of now
abbrev pub offer_own : Option Zone → World → World
offer_own None w = w
offer_own (Some z) w = offer (record { zone = z; moment = w.now }) w

-- another server has it as of the moment of its copy, while that is unexpired
abbrev pub offer_copy : Option Copy → World → World
offer_copy None w = w
offer_copy (Some c) w = cond (unexpired w.now c) (offer (record { zone = c.zone; moment = c.taken }) w) w

abbrev pub take : Server → Offer → ℕ → World → World
take s o m w = with_copies (with_copy (record { server = s; zone = o.zone; taken = lower m o.moment }) w.copies) w

-- what a server says to a query: the word of its unexpired copy of that zone
abbrev pub copy_says : ℕ → Query → Option Copy → Option Word
copy_says now q None = None
copy_says now q (Some c) = cond (unexpired now c) (tells c.zone q.name q.kind) None

abbrev pub respond : Query → Option Word → World → World
respond q None w = w
respond q (Some t) w = with_responses (record { id = q.id; apex = q.apex; word = t } ∷ w.responses) w

-- ---- the resolver

abbrev pub is_server : Server → List Server → Bool
is_server s ts = any (λ t. same_label t s) ts

abbrev pub drawn : ℕ → List Query → Bool
drawn n qs = any (λ (q : Query). nat_eq q.id n) qs

-- until when a word counts: its ttl, and at most a day, from when it was heard
abbrev pub until : Rules → Entry → ℕ
until r e = e.heard + lower e.word.ttl r.day

abbrev pub counts : Rules → ℕ → Entry → Bool
counts r now e = nat_le now (until r e)

abbrev pub names_server : Name → Server → Said → Bool
names_server a s (Referred n d) = same n a && is_server s d.servers
names_server a s (Found c) = false
names_server a s (AliasTo n) = false
names_server a s Empty = false
names_server a s Absent = false

-- a referral to a zone that still counts names the server
abbrev pub knows : Rules → ℕ → Name → Server → List Entry → Bool
knows r now a s es = any (λ e. counts r now e && names_server a s e.word.said) es

-- only servers that are named for a zone are asked: the root's, or those of such a referral
abbrev pub may_ask : Rules → ℕ → List Entry → Name → Server → Bool
may_ask r now es a s = cond (length a == 0) (is_server s r.roots) (knows r now a s es)

-- an id is drawn once
abbrev pub may_draw : ℕ → World → Bool
may_draw n w = not (drawn n w.sent)

abbrev pub ask : Rules → Query → World → World
ask r q w = cond (may_draw q.id w && may_ask r w.now w.cache q.apex q.server && within q.apex q.name) (with_query q w) w

-- a query is pending up to and including its moment and patience
abbrev pub still_pending : Rules → ℕ → List Query → List Query
still_pending r now qs = kept (λ (q : Query). leb now (q.asked + r.patience)) qs

-- a response must have the id of a pending query, and its apex
abbrev pub matches : Response → Query → Bool
matches x q = q.id == x.id && same q.apex x.apex

abbrev pub matching : Response → List Query → Option Query
matching x qs = first (matches x) qs

abbrev pub closed : ℕ → List Query → List Query
closed n qs = kept (λ (q : Query). not (q.id == n)) qs

-- the key of an entry is its apex, name and kind
abbrev pub is_key : Name → Name → ℕ → Entry → Bool
is_key a q k e = same e.apex a && same e.name q && e.kind == k

abbrev pub forgotten : Name → Name → ℕ → List Entry → List Entry
forgotten a q k es = kept (λ e. not (is_key a q k e)) es

abbrev pub entry_for : ℕ → Query → Word → Entry
entry_for now q t = record { apex = q.apex; name = q.name; kind = q.kind; word = t; heard = now; id = q.id; server = q.server }

-- the word is remembered in place of one of the same key, and the query is closed
abbrev pub remember : Query → Word → World → World
remember q t w = with_cache (closed q.id w.pending) (entry_for w.now q t ∷ forgotten q.apex q.name q.kind w.cache) w

abbrev pub hear : Response → Option Query → World → World
hear x None w = w
hear x (Some q) w = remember q x.word w

-- ---- runs

abbrev pub query_for : ℕ → Server → Name → Name → ℕ → ℕ → Query
query_for n s a q k now = record { id = n; server = s; apex = a; name = q; kind = k; asked = now }

abbrev pub step : Rules → Event → World → World
step r Tick w = with_time (w.now + 1) (still_pending r (w.now + 1) w.pending) w
step r (Publishes z) w = publish z w
step r (OffersOwn a) w = offer_own (current a w.published) w
step r (OffersCopy s a) w = offer_copy (copy_at s a w.copies) w
step r (Takes s o m) w = take s o m w
step r (Asks n s a q k) w = ask r (query_for n s a q k w.now) w
step r (Responds q) w = respond q (copy_says w.now q (copy_at q.server q.apex w.copies)) w
step r (Hears x) w = hear x (matching x w.pending) w
step r (Forgets a q k) w = with_cache w.pending (forgotten a q k w.cache) w

-- by events, the latest first
unfoldable pub world : Rules → List Event → World
world r [] = start
world r (e ∷ es) = step r e (world r es)

-- a net brings only what was sent, but late, again, in any order, or never
abbrev pub May : World → Event → Type 0
May w (Takes s o m) = Memᴰ o w.offered
May w (Responds q) = Memᴰ q w.sent
May w (Hears x) = Memᴰ x w.responses
May w Tick = Unit {0}
May w (Publishes z) = Unit {0}
May w (OffersOwn a) = Unit {0}
May w (OffersCopy s a) = Unit {0}
May w (Asks n s a q k) = Unit {0}
May w (Forgets a q k) = Unit {0}

abbrev pub Brought : Rules → List Event → Type 0
Brought r [] = Unit {0}
Brought r (e ∷ es) = May (world r es) e × Brought r es
