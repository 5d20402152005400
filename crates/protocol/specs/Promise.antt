-- What is promised of the whole, and of its parts. Each is a type; a term of that type is its proof. Assumes nothing.
use Rattle.std.specs.Prelude.{◌≡◌, ℕ, ◌+◌, ◌*◌, ◌<◌, ◌≤◌, Bool, true, false, ◌&&◌, ◌⊎◌, List, [], ◌∷◌, ◌++◌, length, Some, Option, ◌≢◌}
use mathlib.Core.List.{Memᴰ}
use Rattle.names.specs.Order.{within}
use Rattle.meaning.specs.Model.{Delegation, Content, Zone}
use Rattle.meaning.specs.Speech.{Found, AliasTo, Referred}
use Rattle.protocol.specs.Words.{Name, Server, Word, Told}
use Rattle.protocol.specs.World.{Rules, rules_of, Version, Offer, Copy, Query, Response, Entry, World, Event, Tick, Publishes, OffersOwn, OffersCopy, Takes, Asks, Responds, Hears, Forgets, lower, copy_at, unexpired, drawn, counts, with_query, query_for, step, world, Brought}
use Rattle.protocol.specs.History.{in_force, longest, rested, others_run_out, oldest, SaidSince, OwnedSince}
use Rattle.protocol.specs.Walks.{End, Shows, LacksAt, TooLong, walk, by_owners, word_said, meant, shown}

-- ---- copies and what is offered

-- a zone was what its owner said at some moment from m on
abbrev pub TrueSince : World → ℕ → Zone → Type 0
TrueSince w m z = Memᴰ z (in_force w.now m z.apex w.published)

-- tests over the history mean the same as looking back over the run
abbrev pub HistoryTrue : Type 0
HistoryTrue =
    (r : Rules) (es : List Event) (m : ℕ) (a : Name) (z : Zone) →
    (Memᴰ z (in_force (world r es).now m a (world r es).published) → OwnedSince r es m a z)
    × (OwnedSince r es m a z → Memᴰ z (in_force (world r es).now m a (world r es).published))

-- apex and serial name one version
abbrev pub OneVersion : Type 0
OneVersion =
    (r : Rules) (es : List Event) (u v : Version) → Memᴰ u (world r es).published → Memᴰ v (world r es).published →
    u.zone.apex ≡ v.zone.apex → u.zone.serial ≡ v.zone.serial → u ≡ v

-- ---- entries

-- an entry comes from a query that was sent for just its apex, name and kind; it was heard while that was pending, which closed it
pub record FromQuery (r : Rules) (w : World) (e : Entry) : Type 0 where
  pub query : Query
  pub sent : Memᴰ query w.sent
  pub id_is : query.id ≡ e.id
  pub server_is : query.server ≡ e.server
  pub apex_is : query.apex ≡ e.apex
  pub name_is : query.name ≡ e.name
  pub kind_is : query.kind ≡ e.kind
  pub asked_before : query.asked ≤ e.heard
  pub in_time : e.heard ≤ query.asked + r.patience
  pub now_closed : (p : Query) → Memᴰ p w.pending → p.id ≢ e.id

-- the owner said an entry's word not longer ago than its own time, patience and the longest expire allow
pub record Fresh (r : Rules) (w : World) (e : Entry) : Type 0 where
  pub moment : ℕ
  pub said_then : SaidSince w moment e.apex e.name e.kind e.word
  pub age : w.now ≤ moment + (lower e.word.ttl r.day + r.patience + longest w.published)
  pub plain : w.now ≤ moment + oldest r w

-- ---- what is shown

abbrev pub Lacks : End → Type 0
Lacks x = (a : Name) × (p : Name) × (x ≡ LacksAt a p)

-- nothing is shown, or what is meant
abbrev pub ShowsMeant : Rules → World → Name → ℕ → Type 0
ShowsMeant r w q k = Lacks (shown r w q k).end ⊎ ((shown r w q k).end ≡ (meant w q k).end)

-- every version that was superseded, of the zones whose words are shown, has run out everywhere
abbrev pub WayRested : Rules → World → Name → ℕ → Type 0
WayRested r w q k = (e : Entry) → Memᴰ e (shown r w q k).words → others_run_out w.now (r.day + r.patience) e.apex w.published ≡ true

abbrev pub Rested : Rules → World → Type 0
Rested r w = rested w.published w.now (oldest r w) ≡ true

-- ---- no dead end

-- the moves that are counted: copyings (an offer and its taking are one), queries, responses and hearings
abbrev pub is_move : Event → Bool
is_move (OffersOwn a) = true
is_move (OffersCopy s a) = true
is_move (Takes s o m) = true
is_move (Asks n s a q k) = true
is_move (Responds q) = true
is_move (Hears x) = true
is_move Tick = false
is_move (Publishes z) = false
is_move (Forgets a q k) = false

abbrev pub all_moves : List Event → Bool
all_moves [] = true
all_moves (e ∷ es) = is_move e && all_moves es

abbrev pub price_of : Event → ℕ
price_of (Takes s o m) = 1
price_of (Asks n s a q k) = 1
price_of (Responds q) = 1
price_of (Hears x) = 1
price_of (OffersOwn a) = 0
price_of (OffersCopy s a) = 0
price_of Tick = 0
price_of (Publishes z) = 0
price_of (Forgets a q k) = 0

abbrev pub price : List Event → ℕ
price [] = 0
price (e ∷ es) = price_of e + price es

abbrev pub is_offer : Event → ℕ
is_offer (OffersOwn a) = 1
is_offer (OffersCopy s a) = 1
is_offer (Takes s o m) = 0
is_offer (Asks n s a q k) = 0
is_offer (Responds q) = 0
is_offer (Hears x) = 0
is_offer Tick = 0
is_offer (Publishes z) = 0
is_offer (Forgets a q k) = 0

abbrev pub offers_in : List Event → ℕ
offers_in [] = 0
offers_in (e ∷ es) = is_offer e + offers_in es

-- each query is the one that the walk then wants
abbrev pub Wanted : Rules → Name → ℕ → World → Event → Type 0
Wanted r q k w (Asks n s a p j) = (j ≡ k) × ((shown r w q k).end ≡ LacksAt a p)
Wanted r q k w Tick = Unit {0}
Wanted r q k w (Publishes z) = Unit {0}
Wanted r q k w (OffersOwn a) = Unit {0}
Wanted r q k w (OffersCopy s a) = Unit {0}
Wanted r q k w (Takes s o m) = Unit {0}
Wanted r q k w (Responds p) = Unit {0}
Wanted r q k w (Hears x) = Unit {0}
Wanted r q k w (Forgets a p j) = Unit {0}

abbrev pub AllWanted : Rules → Name → ℕ → List Event → List Event → Type 0
AllWanted r q k [] es = Unit {0}
AllWanted r q k (f ∷ fs) es = Wanted r q k (world r (fs ++ es)) f × AllWanted r q k fs es

-- a server can have a zone: any can take a copy; or it has an unexpired one already
abbrev pub AnyServer : World → Server → Name → Type 0
AnyServer w s a = Unit {0}

abbrev pub HasCopy : World → Server → Name → Type 0
HasCopy w s a = (c : Copy) × (copy_at s a w.copies ≡ Some c) × (unexpired w.now c ≡ true)

-- the root, and each zone that a word on the way refers to, has a named server that can have it
pub record Served (Can : World → Server → Name → Type 0) (r : Rules) (w : World) (q : Name) (k : ℕ) : Type 0 where
  pub root : (s : Server) × Memᴰ s r.roots × Can w s []
  pub referred : (t : Word) → Memᴰ t (meant w q k).words → (n : Name) (d : Delegation) → t.said ≡ Referred n d → (s : Server) × Memᴰ s d.servers × Can w s n

-- so many moves for each word on the way show what is meant
pub record Reaches (cost : ℕ) (r : Rules) (es : List Event) (q : Name) (k : ℕ) : Type 0 where
  pub moves : List Event
  pub brought : Brought r (moves ++ es)
  pub only_moves : all_moves moves ≡ true
  pub wanted : AllWanted r q k moves es
  pub bound : price moves ≤ cost * length (meant (world r es) q k).words
  pub offers : offers_in moves ≤ length (meant (world r es) q k).words
  pub shows : (shown r (world r (moves ++ es)) q k).end ≡ (meant (world r es) q k).end

abbrev pub Live : (World → Server → Name → Type 0) → ℕ → Rules → List Event → Type 0
Live Can cost r es = (q : Name) (k : ℕ) → Rested r (world r es) → (Lacks (meant (world r es) q k).end → ⊥) → Served Can r (world r es) q k → Reaches cost r es q k

-- ---- the promise: of every run whatever owners, servers, net and questions did
pub record Promise (r : Rules) (es : List Event) : Type 0 where
  pub copies_true : (c : Copy) → Memᴰ c (world r es).copies → TrueSince (world r es) c.taken c.zone
  pub offers_true : (o : Offer) → Memᴰ o (world r es).offered → TrueSince (world r es) o.moment o.zone
  pub from_queries : (e : Entry) → Memᴰ e (world r es).cache → FromQuery r (world r es) e
  -- fresh: every word by which an answer is shown was said by the owner of its zone no longer ago than the times allow
  pub fresh : (e : Entry) → Memᴰ e (world r es).cache → counts r (world r es).now e ≡ true → Fresh r (world r es) e
  pub words_fresh : (q : Name) (k : ℕ) (e : Entry) → Memᴰ e (shown r (world r es) q k).words → Fresh r (world r es) e
  -- settled: if for that long no owner changed anything, what is shown is what the zones mean
  pub settled_way : (q : Name) (k : ℕ) → WayRested r (world r es) q k → ShowsMeant r (world r es) q k
  pub settled : Rested r (world r es) → (q : Name) (k : ℕ) → ShowsMeant r (world r es) q k
  -- live: no state is a dead end
  pub live : Live AnyServer 4 r es
  pub live_copied : Live HasCopy 3 r es

abbrev pub Main : Type 0
Main = (roots : List Server) (es : List Event) → Brought (rules_of roots) es → Promise (rules_of roots) es

-- ---- the bound is exact

-- whatever the longest expire, in some run a word of just that age is shown though its owner changed it in the moment in which
-- it was last true; one second later it is not shown
pub record Exact (most : ℕ) : Type 0 where
  pub roots : List Server
  pub run : List Event
  pub brought : Brought (rules_of roots) run
  pub longest_is : longest (world (rules_of roots) run).published ≡ most
  pub name : Name
  pub kind : ℕ
  pub old : Word
  pub new : Word
  pub moment : ℕ
  -- the old word was said up to that moment, and never since
  pub said_then : SaidSince (world (rules_of roots) run) moment [] name kind old
  pub not_since : (m : ℕ) → moment < m → SaidSince (world (rules_of roots) run) m [] name kind old → ⊥
  pub now_is : (world (rules_of roots) run).now ≡ moment + oldest (rules_of roots) (world (rules_of roots) run)
  pub shows_old : (c : Content) × (old.said ≡ Found c) × ((shown (rules_of roots) (world (rules_of roots) run) name kind).end ≡ Shows (Told c))
  pub means_new : (c : Content) × (new.said ≡ Found c) × ((meant (world (rules_of roots) run) name kind).end ≡ Shows (Told c))
  pub differ : old ≡ new → ⊥
  pub one_second_later : Lacks (shown (rules_of roots) (world (rules_of roots) (Tick ∷ run)) name kind).end

abbrev pub BoundExact : Type 0
BoundExact = (most : ℕ) → Exact most

-- ---- beside it: what hearing and asking do, and where walks go

pub record HearLaws : Type 0 where
  -- a response to no pending query, to a closed or expired one, or with another apex changes nothing
  pub unmatched : (r : Rules) (w : World) (x : Response) → ((q : Query) → Memᴰ q w.pending → q.id ≡ x.id → q.apex ≢ x.apex) → step r (Hears x) w ≡ w
  -- once heard, no query of that id is pending, and the word is remembered under the query's own key
  pub closes : (r : Rules) (w : World) (x : Response) → (step r (Hears x) w ≡ w) ⊎ ((q : Query) → Memᴰ q (step r (Hears x) w).pending → q.id ≢ x.id)
  -- after patience no query is pending
  pub expires : (r : Rules) (w : World) (q : Query) → Memᴰ q (step r Tick w).pending → w.now + 1 ≤ q.asked + r.patience

-- only servers that are named are asked: the root's, or those of a referral that still counts; and each id is drawn once
pub record NamedServer (r : Rules) (w : World) (a : Name) (s : Server) : Type 0 where
  pub named : ((a ≡ []) × Memᴰ s r.roots) ⊎ ((e : Entry) × (d : Delegation) × Memᴰ e w.cache × (counts r w.now e ≡ true) × (e.word.said ≡ Referred a d) × Memᴰ s d.servers)

abbrev pub AskLaw : Type 0
AskLaw =
    (r : Rules) (w : World) (n : ℕ) (s : Server) (a q : Name) (k : ℕ) → (step r (Asks n s a q k) w ≡ w) ⊎
    ((step r (Asks n s a q k) w ≡ with_query (query_for n s a q k w.now) w) × NamedServer r w a s × (within a q ≡ true) × (drawn n w.sent ≡ false))

-- a source of words none of which is an alias; its referrals lead down, towards the name
abbrev pub NoAliases : (Name → Name → Option Word) → Type 0
NoAliases f = (a q : Name) (t : Word) (n : Name) → f a q ≡ Some t → t.said ≢ AliasTo n

abbrev pub LeadsDown : (Name → Name → Option Word) → Type 0
LeadsDown f = (a q : Name) (t : Word) (n : Name) (d : Delegation) → f a q ≡ Some t → t.said ≡ Referred n d → (length a < length n) × (within n q ≡ true)

pub record WalkLaws : Type 0 where
  -- a walk goes by words alone: where another source says the same on the way, it shows the same
  pub by_words : (n : ℕ) (f g : Name → Name → Option Word) (a q : Name) → ((c p : Name) (t : Word) → Memᴰ t (walk word_said n f a q).words → f c p ≡ Some t → g c p ≡ Some t) → Lacks (walk word_said n f a q).end ⊎ ((walk word_said n g a q).end ≡ (walk word_said n f a q).end)
  -- what owners say leads down
  pub down : (w : World) (k : ℕ) → LeadsDown (by_owners w k)
  -- without aliases a walk ends within the labels of its name
  pub ends : (f : Name → Name → Option Word) → LeadsDown f → NoAliases f → (n : ℕ) (a q : Name) → within a q ≡ true → length q < n + length a → (walk word_said n f a q).end ≢ TooLong
  -- so a name of at most 16 labels never needs more than 24 words
  pub ends_24 : (w : World) (k : ℕ) → NoAliases (by_owners w k) → (q : Name) → length q ≤ 16 → (meant w q k).end ≢ TooLong
