-- No state is a dead end: word by word along the way, each that the cache lacks is fetched.
use Rattle.std.proofs.Common.{◌≡◌, ℕ, zero, suc, ◌+◌, ◌*◌, ◌<◌, ◌≤◌, Bool, true, false, not, ◌&&◌, eqb, ◌⊎◌, List, [], ◌∷◌, ◌++◌, length, Some, None, Option, sym, refl, ap, ◌∙◌, subst, inl, inr, append_assoc, mul-one, mul-add, arith}
use mathlib.Core.List.{Memᴰ}
use Rattle.std.proofs.lemmas.Bool.{cond-false, and_parts, and_from, not_from_false, leb-true, le-leb, eq-eqb, ne_eqb}
use Rattle.names.specs.Order.{same_label}
use Rattle.names.proofs.Within.{label_same}
use Rattle.meaning.specs.Model.{Delegation, Zone}
use Rattle.meaning.specs.Says.{same}
use Rattle.meaning.specs.Speech.{Said, Referred}
use Rattle.meaning.proofs.Rules.{same_so, so_same}
use Rattle.protocol.specs.Words.{Name, Server, Word, tells, Next, Ends, Goes, next}
use Rattle.protocol.specs.World.{Rules, Version, Copy, Entry, World, Event, current, is_copy_at, copy_at, unexpired, is_server, until, counts, names_server, knows, may_ask, is_key, forgotten, entry_for, world, Brought}
use Rattle.protocol.specs.History.{in_force, rested, oldest}
use Rattle.protocol.specs.Walks.{End, LacksAt, Walk, walk, by_zone, by_owners, word_said, remembered, entry_said, shown}
use Rattle.protocol.specs.Promise.{Lacks, Rested, all_moves, price, offers_in, Wanted, AllWanted, AnyServer, HasCopy, Live}
use Rattle.protocol.proofs.Lists.{some_is, first_here, first_there, first_some, first_none, first_kept, some_any}
use Rattle.protocol.proofs.Force.{still_current}
use Rattle.protocol.proofs.Steps.{inv}
use Rattle.protocol.proofs.Walks.{walk_lacks, walk_ends, walk_goes, walk_none, by_owner}
use Rattle.protocol.proofs.Settled.{Held, held, says_now, out_everywhere}
use Rattle.protocol.proofs.Fetch.{undrawn, Fetched, fetch_copied, fetch_any}
use Rattle.protocol.proofs.Words.{word_laws}

abbrev Source : Type 0
Source = Name → Name → Option Entry

-- ---- a walk so far, over every cache that has at least these words

abbrev Extends : Source → Source → Type 0
Extends f g = (c p : Name) (e : Entry) → f c p ≡ Some e → g c p ≡ Some e

-- the walk of a question leads from the root to a zone and name, with so many steps left
abbrev Leads : Source → Name → ℕ → Name → Name → Type 0
Leads f q n a p = (g : Source) → Extends f g → (walk entry_said 24 g [] q).end ≡ (walk entry_said n g a p).end

leads_on : (f : Source) (q : Name) (n : ℕ) (a p c b : Name) (e : Entry) → Leads f q (suc n) a p → f a p ≡ Some e → next (entry_said e) p ≡ Goes c b → Leads f q n c b
leads_on f q n a p c b e l h d g x = l g x ∙ ap (λ (y : Walk Entry). y.end) (walk_goes entry_said n g a p e c b (x a p e h) d)

leads_more : (f g : Source) (q : Name) (n : ℕ) (a p : Name) → Extends f g → Leads f q n a p → Leads g q n a p
leads_more f g q n a p x l h y = l h (λ c b e i. y c b e (x c b e i))

-- ---- moves after moves

module _ (r : Rules) (q : Name) (k : ℕ) (es first-moves : List Event) where
  all_wanted : (more : List Event) → AllWanted r q k more (first-moves ++ es) → AllWanted r q k first-moves es → AllWanted r q k (more ++ first-moves) es
  all_wanted [] a b = b
  all_wanted (f ∷ fs) a b = (subst (λ xs. Wanted r q k (world r xs) f) (sym (append_assoc fs first-moves es)) a.0, all_wanted fs a.1 b)

moves_both : (xs ys : List Event) → all_moves xs ≡ true → all_moves ys ≡ true → all_moves (xs ++ ys) ≡ true
moves_both [] ys a b = b
moves_both (x ∷ xs) ys a b = let p = and_parts _ (all_moves xs) a in and_from _ (all_moves (xs ++ ys)) p.0 (moves_both xs ys p.1 b)

pub price_both : (xs ys : List Event) → price (xs ++ ys) ≡ price xs + price ys
price_both [] ys = omega arith
price_both (x ∷ xs) ys = let e = price_both xs ys in omega arith

pub offers_both : (xs ys : List Event) → offers_in (xs ++ ys) ≡ offers_in xs + offers_in ys
offers_both [] ys = omega arith
offers_both (x ∷ xs) ys = let e = offers_both xs ys in omega arith

-- ---- what a fetched word adds to the cache

module _ (r : Rules) (now : ℕ) (es : List Entry) (k : ℕ) (a p : Name) (e : Entry) (apex_is : e.apex ≡ a) (name_is : e.name ≡ p) (kind_is : e.kind ≡ k) (heard_is : e.heard ≡ now) where
  abbrev grown : List Entry
  grown = e ∷ forgotten a p k es

  is_key_lem : is_key a p k e ≡ true
  is_key_lem = and_from (same e.apex a && same e.name p) (eqb e.kind k) (and_from (same e.apex a) (same e.name p) (so_same e.apex a apex_is) (so_same e.name p name_is)) (eq-eqb e.kind k kind_is)

  counts_now : counts r now e ≡ true
  counts_now = le-leb now (until r e) (omega arith)

  pub had : remembered r now grown k a p ≡ Some e
  had = first_here (λ x. counts r now x && is_key a p k x) e (forgotten a p k es) (and_from (counts r now e) (is_key a p k e) counts_now is_key_lem)

  -- all that was remembered still is, if this word was not
  pub keeps : remembered r now es k a p ≡ None → Extends (remembered r now es k) (remembered r now grown k)
  keeps none c b f h = go (counts r now e && is_key c b k e) refl
    where
      g : Held r now es k c b f
      g = held r now es k c b f h

      -- a word of the same key as the new one would have been remembered
      not_it : is_key a p k f ≡ true → ⊥
      not_it i = first_none (λ x. counts r now x && is_key a p k x) es none f g.there (and_from (counts r now f) (is_key a p k f) g.counting i)

      key_of : e.apex ≡ c → e.name ≡ b → is_key a p k f ≡ true
      key_of x y =
          and_from (same f.apex a && same f.name p) (eqb f.kind k)
          (and_from (same f.apex a) (same f.name p) (so_same f.apex a (g.apex_is ∙ sym x ∙ apex_is)) (so_same f.name p (g.name_is ∙ sym y ∙ name_is)))
          (eq-eqb f.kind k g.kind_is)

      survives : not (is_key a p k f) ≡ true
      survives = go' (is_key a p k f) refl
        where
          go' : (x : Bool) → is_key a p k f ≡ x → not (is_key a p k f) ≡ true
          go' true i = absurd (not_it i)
          go' false i = not_from_false (is_key a p k f) i

      go : (x : Bool) → (counts r now e && is_key c b k e) ≡ x → remembered r now grown k c b ≡ Some f
      go true i =
          let m = held r now (e ∷ []) k c b e (first_here (λ y. counts r now y && is_key c b k y) e [] i) in
          absurd (not_it (key_of m.apex_is m.name_is))
      go false i =
          first_there (λ x. counts r now x && is_key c b k x) e (forgotten a p k es) i
          ∙ first_kept (λ x. counts r now x && is_key c b k x) (λ x. not (is_key a p k x)) es f h survives

-- ---- who may be asked

server_in : (s : Server) (ss : List Server) → Memᴰ s ss → is_server s ss ≡ true
server_in s ss m = some_any (λ t. same_label t s) ss s m (label_same s s refl)

pub may_ask_root : (r : Rules) (now : ℕ) (es : List Entry) (s : Server) → Memᴰ s r.roots → may_ask r now es [] s ≡ true
may_ask_root r now es s m = server_in s r.roots m

names_it : (a : Name) (s : Server) (x : Said) (d : Delegation) → x ≡ Referred a d → Memᴰ s d.servers → names_server a s x ≡ true
names_it a s x d e m = ap (names_server a s) e ∙ and_from (same a a) (is_server s d.servers) (so_same a a refl) (server_in s d.servers m)

pub may_ask_referred : (r : Rules) (now : ℕ) (es : List Entry) (a : Name) (s : Server) (e : Entry) (d : Delegation) → 0 < length a → Memᴰ e es → counts r now e ≡ true → e.word.said ≡ Referred a d → Memᴰ s d.servers → may_ask r now es a s ≡ true
may_ask_referred r now es a s e d l m c i h =
    cond-false (eqb (length a) 0) (is_server s r.roots) (knows r now a s es) (ne_eqb (length a) 0 (λ z. omega arith))
    ∙ some_any (λ x. counts r now x && names_server a s x.word.said) es e m (and_from (counts r now e) (names_server a s e.word.said) c (names_it a s e.word.said d i h))

-- ---- along the way

-- what a kind of fetching gives, wherever owners rest
abbrev Fetches : (World → Server → Name → Type 0) → ℕ → Rules → Type 0
Fetches Can cost r =
    (es : List Event) → Brought r es → Rested r (world r es) → (k : ℕ) (a p : Name) (s : Server) (t : Word) (z : Zone) →
    current a (world r es).published ≡ Some z → tells z p k ≡ Some t → may_ask r (world r es).now (world r es).cache a s ≡ true → Can (world r es) s a → Fetched Can cost r es k a p t

-- from a state: so many words more show that end
record Goal (cost : ℕ) (r : Rules) (es : List Event) (q : Name) (k : ℕ) (words : ℕ) (x : End) : Type 0 where
  moves : List Event
  brought : Brought r (moves ++ es)
  only_moves : all_moves moves ≡ true
  wanted : AllWanted r q k moves es
  bound : price moves ≤ cost * words
  offers : offers_in moves ≤ words
  shows : (shown r (world r (moves ++ es)) q k).end ≡ x

-- nothing more is needed
at_end : (cost : ℕ) (r : Rules) (es : List Event) (q : Name) (k words : ℕ) (x : End) → Brought r es → (shown r (world r es) q k).end ≡ x → Goal cost r es q k words x
at_end cost r es q k words x b h = record { moves = []; brought = b; only_moves = refl; wanted = tt; bound = omega arith; offers = omega arith; shows = h }

-- one word after those of a fetch
after_fetch : (Can : World → Server → Name → Type 0) (cost : ℕ) (r : Rules) (es : List Event) (q : Name) (k : ℕ) (a p : Name) (t : Word) (words : ℕ) (x : End) → (f : Fetched Can cost r es k a p t) → (shown r (world r es) q k).end ≡ LacksAt a p → Goal cost r (f.moves ++ es) q k words x → Goal cost r es q k (suc words) x
after_fetch Can cost r es q k a p t words x f l g =
    let pb = price_both g.moves f.moves in
    let ob = offers_both g.moves f.moves in
    let b1 = f.bound in
    let b2 = g.bound in
    let o1 = f.offers in
    let o2 = g.offers in
    let m1 = mul-one cost in
    let m2 = mul-add cost 1 words in
    let one_more : cost * suc words ≡ cost * (1 + words) = ap (λ n. cost * n) (omega arith) in
    record {
      moves = g.moves ++ f.moves;
      brought = subst (Brought r) (sym (append_assoc g.moves f.moves es)) g.brought;
      only_moves = moves_both g.moves f.moves g.only_moves f.only_moves;
      wanted = all_wanted r q k es f.moves g.moves g.wanted (f.wanted q l);
      bound = omega arith;
      offers = omega arith;
      shows = subst (λ xs. (shown r (world r xs) q k).end ≡ x) (sym (append_assoc g.moves f.moves es)) g.shows;
    }

goal_more : (cost : ℕ) (r : Rules) (es : List Event) (q : Name) (k words : ℕ) (x : End) → Goal cost r es q k words x → Goal cost r es q k (suc words) x
goal_more cost r es q k words x g =
    let b = g.bound in
    let o = g.offers in
    let m = mul-add cost 1 words in
    let one_more : cost * suc words ≡ cost * (1 + words) = ap (λ n. cost * n) (omega arith) in
    record { moves = g.moves; brought = g.brought; only_moves = g.only_moves; wanted = g.wanted; bound = omega arith; offers = omega arith; shows = g.shows }

goal_is : (cost : ℕ) (r : Rules) (es : List Event) (q : Name) (k m n : ℕ) (x y : End) → m ≡ n → x ≡ y → Goal cost r es q k m x → Goal cost r es q k n y
goal_is cost r es q k m n x y e f g = subst (λ i. Goal cost r es q k i y) e (subst (Goal cost r es q k m) f g)

-- what owners say, by their history
abbrev pub by_say : List Version → ℕ → Name → Name → Option Word
by_say vs k a p = by_zone (current a vs) p k

module _ (Can : World → Server → Name → Type 0) (cost : ℕ) (r : Rules) (fetches : Fetches Can cost r) (q : Name) (k : ℕ) (vs : List Version) where
  abbrev held_in : List Event → Source
  held_in es = remembered r (world r es).now (world r es).cache k

  abbrev rest_of : ℕ → Name → Name → Walk Word
  rest_of n a p = walk word_said n (by_say vs k) a p

  abbrev RootServed : List Event → Type 0
  RootServed es = (s : Server) × Memᴰ s r.roots × Can (world r es) s []

  abbrev ServedFrom : List Event → ℕ → Name → Name → Type 0
  ServedFrom es n a p = (t : Word) → Memᴰ t (rest_of n a p).words → (c : Name) (d : Delegation) → t.said ≡ Referred c d → (s : Server) × Memᴰ s d.servers × Can (world r es) s c

  abbrev Named : List Event → Name → Type 0
  Named es a = (s : Server) × (may_ask r (world r es).now (world r es).cache a s ≡ true) × Can (world r es) s a

  -- from a state with so many steps left, the rest of the way can be had
  abbrev Way : ℕ → Type 0
  Way n =
      (es : List Event) → Brought r es → (world r es).published ≡ vs → Rested r (world r es) → (a p : Name) → Leads (held_in es) q n a p → RootServed es → ServedFrom es n a p → Named es a →
      (Lacks (rest_of n a p).end → ⊥) → Goal cost r es q k (length (rest_of n a p).words) (rest_of n a p).end

  shown_by_lem : (es : List Event) (n : ℕ) (a p : Name) → Leads (held_in es) q n a p → (shown r (world r es) q k).end ≡ (walk entry_said n (held_in es) a p).end
  shown_by_lem es n a p l = l (held_in es) (λ c b e h. h)

  -- the zone that a word leads to has a named server
  named_next : (es : List Event) (a p c b : Name) (z : Zone) (e : Entry) → held_in es a p ≡ Some e → current a vs ≡ Some z → tells z p k ≡ Some e.word → next (entry_said e) p ≡ Goes c b → RootServed es → ((c : Name) (d : Delegation) → e.word.said ≡ Referred c d → (s : Server) × Memᴰ s d.servers × Can (world r es) s c) → Named es c
  named_next es a p c b z e h owned tells-it d root referred = go (word_laws.on (entry_said e) p c b d)
    where
      go : (c ≡ []) ⊎ ((d : Delegation) × (entry_said e ≡ Referred c d) × (b ≡ p)) → Named es c
      go (inl e-root) =
          let s = root in
          subst (Named es) (sym e-root) (s.0, may_ask_root r (world r es).now (world r es).cache s.0 s.1, s.2)
      go (inr x) =
          let s = referred c x.0 x.1 in
          let i = held r (world r es).now (world r es).cache k a p e h in
          let l = (word_laws.down z p k e.word c x.0 tells-it x.1).0 in
          (s.0, may_ask_referred r (world r es).now (world r es).cache c s.0 e x.0 (omega arith) i.there i.counting x.1 s.1, s.2)

  -- with its first word in the cache, the rest follows by what comes after it
  with_word : (n : ℕ) → Way n → (es : List Event) → Brought r es → (world r es).published ≡ vs → Rested r (world r es) → (a p : Name) → Leads (held_in es) q (suc n) a p → RootServed es → ServedFrom es (suc n) a p → (Lacks (rest_of (suc n) a p).end → ⊥) → (z : Zone) (e : Entry) → current a vs ≡ Some z → tells z p k ≡ Some e.word → held_in es a p ≡ Some e →
      (m : ℕ) × (suc m ≡ length (rest_of (suc n) a p).words) × Goal cost r es q k m (rest_of (suc n) a p).end
  with_word n ih es b pub-is rest a p leads root served lacks z e owned tells-it h = go (next (entry_said e) p) refl
    where
      said_so : by_say vs k a p ≡ Some e.word
      said_so = ap (λ o. by_zone o p k) owned ∙ tells-it

      go : (x : Next) → next (entry_said e) p ≡ x → (m : ℕ) × (suc m ≡ length (rest_of (suc n) a p).words) × Goal cost r es q k m (rest_of (suc n) a p).end
      go (Ends o) d =
          let i = walk_ends word_said n (by_say vs k) a p e.word o said_so d in (
            0,
            sym (ap (λ (y : Walk Word). length y.words) i),
            at_end cost r es q k 0 (rest_of (suc n) a p).end b
                (shown_by_lem es (suc n) a p leads ∙ ap (λ (y : Walk Entry). y.end) (walk_ends entry_said n (held_in es) a p e o h d) ∙ sym (ap (λ (y : Walk Word). y.end) i)),
          )
      go (Goes c x) d =
          let i = walk_goes word_said n (by_say vs k) a p e.word c x said_so d in
          let on_way : (t : Word) → Memᴰ t (e.word ∷ (rest_of n c x).words) → Memᴰ t (rest_of (suc n) a p).words = λ t m. subst (λ (y : Walk Word). Memᴰ t y.words) (sym i) m in (
            length (rest_of n c x).words,
            sym (ap (λ (y : Walk Word). length y.words) i),
            subst (Goal cost r es q k (length (rest_of n c x).words)) (sym (ap (λ (y : Walk Word). y.end) i))
                (ih es b pub-is rest c x (leads_on (held_in es) q n a p c x e leads h d) root (λ t m. served t (on_way t (Memᴰ.tail m)))
                (named_next es a p c x z e h owned tells-it d root (served e.word (on_way e.word (Memᴰ.head refl))))
                (λ l. lacks (l.0, l.1, ap (λ (y : Walk Word). y.end) i ∙ l.2))),
          )

  way_on : (n : ℕ) → Way n → Way (suc n)
  way_on n ih es b pub-is rest a p leads root served named lacks = go (by_say vs k a p) refl
    where
      w : World
      w = world r es

      has : (z : Zone) (t : Word) → current a vs ≡ Some z → tells z p k ≡ Some t → (o : Option Entry) → held_in es a p ≡ o → Goal cost r es q k (length (rest_of (suc n) a p).words) (rest_of (suc n) a p).end
      has z t owned tells-it (Some e) h =
          let out = out_everywhere r (world r es) (inv r es b) rest a in
          let same_word_lem : by_owners (world r es) k a p ≡ Some e.word = says_now r (world r es) (inv r es b) k a p e h out in
          let t_is : t ≡ e.word = some_is t e.word (sym tells-it ∙ ap (λ o. by_zone o p k) (sym owned) ∙ ap (λ v. by_zone (current a v) p k) (sym pub-is) ∙ same_word_lem) in
          let g = with_word n ih es b pub-is rest a p leads root served lacks z e owned (tells-it ∙ ap Some t_is) h in
          subst (λ m. Goal cost r es q k m (rest_of (suc n) a p).end) g.1 (goal_more cost r es q k g.0 (rest_of (suc n) a p).end g.2)
      has z t owned tells-it None h =
          let f = fetches es b rest k a p named.0 t z (ap (current a) pub-is ∙ owned) tells-it named.1 named.2 in
          let es1 = f.moves ++ es in
          let e = entry_for (world r es).now f.query t in
          let w_is : (λ (c x : Name). held_in es1 c x) ≡ remembered r (world r es).now (e ∷ forgotten a p k (world r es).cache) k = λ i. remembered r (f.now_is i) (f.cache_is i) k in
          let found : held_in es1 a p ≡ Some e = ap (λ (s : Source). s a p) w_is ∙ had r (world r es).now (world r es).cache k a p e f.key_apex f.key_name f.key_kind refl in
          let ext : Extends (held_in es) (held_in es1) = subst (λ (s : Source). Extends (held_in es) s) (sym w_is) (keeps r (world r es).now (world r es).cache k a p e f.key_apex f.key_name f.key_kind refl h) in
          let rest1 : Rested r (world r es1) = (λ i. rested (f.published_is i) (f.now_is i) (oldest r (record { now = f.now_is i; published = f.published_is i; offered = []; copies = []; sent = []; pending = []; responses = []; cache = [] }))) ∙ rest in
          let g =
          with_word n ih es1 f.brought (f.published_is ∙ pub-is) rest1 a p (leads_more (held_in es) (held_in es1) q (suc n) a p ext leads)
          (root.0, root.1, f.still_can root.0 [] root.2) (λ u m c d x. let s = served u m c d x in (s.0, s.1, f.still_can s.0 c s.2)) lacks z e owned tells-it found in
          subst (λ m. Goal cost r es q k m (rest_of (suc n) a p).end) g.1
          (after_fetch Can cost r es q k a p t g.0 (rest_of (suc n) a p).end f (shown_by_lem es (suc n) a p leads ∙ ap (λ (y : Walk Entry). y.end) (walk_lacks entry_said n (held_in es) a p h)) g.2)

      go : (o : Option Word) → by_say vs k a p ≡ o → Goal cost r es q k (length (rest_of (suc n) a p).words) (rest_of (suc n) a p).end
      go None e = absurd (lacks (a, p, ap (λ (y : Walk Word). y.end) (walk_lacks word_said n (by_say vs k) a p e)))
      go (Some t) e =
          let o = by_owner (world r es) k a p t (ap (λ v. by_zone (current a v) p k) pub-is ∙ e) in
          has o.0 t (sym (ap (current a) pub-is) ∙ o.1) o.2 (held_in es a p) refl

  way : (n : ℕ) → Way n
  way zero es b pub-is rest a p leads root served named lacks =
      at_end cost r es q k (length (rest_of 0 a p).words) (rest_of 0 a p).end b
      (shown_by_lem es 0 a p leads ∙ ap (λ (y : Walk Entry). y.end) (walk_none entry_said (held_in es) a p) ∙ sym (ap (λ (y : Walk Word). y.end) (walk_none word_said (by_say vs k) a p)))
  way (suc n) es b pub-is rest a p leads root served named lacks = way_on n (way n) es b pub-is rest a p leads root served named lacks

reaches : (Can : World → Server → Name → Type 0) (cost : ℕ) (r : Rules) → Fetches Can cost r → (es : List Event) → Brought r es → Live Can cost r es
reaches Can cost r fetches es b q k rest meant-some served =
    let s = served.root in
    let g =
    way Can cost r fetches q k (world r es).published 24 es b refl rest [] q (λ f x. refl) s served.referred
    (s.0, may_ask_root r (world r es).now (world r es).cache s.0 s.1, s.2) meant-some in
    record { moves = g.moves; brought = g.brought; only_moves = g.only_moves; wanted = g.wanted; bound = g.bound; offers = g.offers; shows = g.shows }

pub live : (r : Rules) (es : List Event) → Brought r es → Live AnyServer 4 r es
live r es b = reaches AnyServer 4 r (λ fs c rest k a p s t z owned tells-it may can. fetch_any r fs c k a p s t z owned tells-it may) es b

-- an unexpired copy is what its owner says, where owners rest
pub copy_current : (r : Rules) (es : List Event) → Brought r es → Rested r (world r es) → (s : Server) (a : Name) (c : Copy) (z : Zone) → copy_at s a (world r es).copies ≡ Some c → unexpired (world r es).now c ≡ true → current a (world r es).published ≡ Some z → c.zone ≡ z
copy_current r es b rest s a c z there good owned =
    let i = inv r es b in
    let w = world r es in
    let f = first_some (is_copy_at s a) (world r es).copies c there in
    let apex_is = same_so c.zone.apex a (and_parts (same_label c.server s) (same c.zone.apex a) f.1).1 in
    let l = leb-true (world r es).now (c.taken + c.zone.expire) good in
    let now_so : current a (world r es).published ≡ Some c.zone =
    still_current (world r es).now (r.day + r.patience) c.taken a c.zone (omega arith) (world r es).published (world r es).now (out_everywhere r (world r es) i rest a)
    (subst (λ x. Memᴰ c.zone (in_force (world r es).now c.taken x (world r es).published)) apex_is (i.copy c f.0)) in
    some_is c.zone z (sym now_so ∙ owned)

pub live_copied : (r : Rules) (es : List Event) → Brought r es → Live HasCopy 3 r es
live_copied r es b =
    reaches HasCopy 3 r
    (λ fs c rest k a p s t z owned tells-it may can.
    let n = undrawn (world r fs).sent in
    let z-is = copy_current r fs c rest s a can.0 z can.1 can.2 owned in
    fetch_copied r fs c n.0 n.1 k a p s t can.0 can.1 can.2 (ap (λ y. tells y p k) z-is ∙ tells-it) may)
    es b
