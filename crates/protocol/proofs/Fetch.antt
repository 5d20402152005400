-- A wanted word is had by one query, response and hearing, after a copying where one is needed; what is remembered stays.
use Rattle.std.proofs.Common.{◌≡◌, ℕ, ◌+◌, ◌<◌, ◌≤◌, true, false, not, ◌&&◌, eqb, ltb, List, [], ◌∷◌, ◌++◌, Some, None, sym, refl, ap, ◌∙◌, subst, ⊎_elim, arith}
use mathlib.Core.List.Memᴰ
use mathlib.Core.List.{Memᴰ}
use Rattle.std.proofs.lemmas.Bool.{cond-true, cond_both, and_parts, and_from, not_from_false, le-leb, eq-eqb, ne_eqb}
use Rattle.names.specs.Order.{same_label, within}
use Rattle.names.proofs.Within.{label_same}
use Rattle.meaning.specs.Model.{Zone}
use Rattle.meaning.specs.Says.{same}
use Rattle.meaning.proofs.Rules.{same_so, so_same}
use Rattle.protocol.specs.Lists.{kept}
use Rattle.protocol.specs.Words.{Name, Server, Word, tells}
use Rattle.protocol.specs.World.{Rules, Offer, Copy, Query, Response, World, Event, OffersOwn, Takes, Asks, Responds, Hears, with_query, with_responses, current, lower, is_copy_at, copy_at, unexpired, offer, offer_own, take, copy_says, respond, drawn, may_ask, may_draw, matches, matching, forgotten, entry_for, remember, hear, query_for, world, Brought}
use Rattle.protocol.specs.Walks.{LacksAt, shown}
use Rattle.protocol.specs.Promise.{all_moves, price, offers_in, AllWanted, AnyServer, HasCopy}
use Rattle.protocol.proofs.Lists.{first_here, first_some, none_any}
use Rattle.protocol.proofs.Force.{current_apex}
use Rattle.protocol.proofs.Words.{word_laws}

-- ---- an id that was never drawn

pub above_all : (qs : List Query) → (n : ℕ) × ((q : Query) → Memᴰ q qs → q.id < n)
above_all [] = (0, λ q m. absurd (Memᴰ.not-nil m))
above_all (p ∷ qs) =
    let r = above_all qs in
    (p.id + r.0 + 1, λ q m. ⊎_elim (λ e. let i = ap (λ (x : Query). x.id) e in omega arith) (λ h. let l = r.1 q h in omega arith) (Memᴰ.cases_cons m))

pub undrawn : (qs : List Query) → (n : ℕ) × (drawn n qs ≡ false)
undrawn qs =
    let r = above_all qs in
    (r.0, none_any (λ (q : Query). eqb q.id r.0) qs (λ q m. ne_eqb q.id r.0 (λ e. let l = r.1 q m in omega arith)))

-- ---- the moves, and what they leave

-- the word is remembered, by moves whose only query is for it; time, history and all other words stay
pub record Fetched (Can : World → Server → Name → Type 0) (cost : ℕ) (r : Rules) (es : List Event) (k : ℕ) (a p : Name) (t : Word) : Type 0 where
  pub moves : List Event
  pub brought : Brought r (moves ++ es)
  pub only_moves : all_moves moves ≡ true
  pub wanted : (q : Name) → (shown r (world r es) q k).end ≡ LacksAt a p → AllWanted r q k moves es
  pub bound : price moves ≤ cost
  pub offers : offers_in moves ≤ 1
  pub query : Query
  pub key_apex : query.apex ≡ a
  pub key_name : query.name ≡ p
  pub key_kind : query.kind ≡ k
  pub now_is : (world r (moves ++ es)).now ≡ (world r es).now
  pub published_is : (world r (moves ++ es)).published ≡ (world r es).published
  pub cache_is : (world r (moves ++ es)).cache ≡ entry_for (world r es).now query t ∷ forgotten a p k (world r es).cache
  pub still_can : (s : Server) (c : Name) → Can (world r es) s c → Can (world r (moves ++ es)) s c

pub lower_same : (n : ℕ) → lower n n ≡ n
lower_same n = cond_both (ltb n n) n n (λ x. x ≡ n) (λ e. refl) (λ e. refl)

-- a query, a response and a hearing, where the server has an unexpired copy that tells the word
module _ (r : Rules) (es : List Event) (b : Brought r es) (n : ℕ) (new : drawn n (world r es).sent ≡ false) (k : ℕ) (a p : Name) (s : Server) (t : Word) (c : Copy) (there : copy_at s a (world r es).copies ≡ Some c) (good : unexpired (world r es).now c ≡ true) (tells-it : tells c.zone p k ≡ Some t) (may : may_ask r (world r es).now (world r es).cache a s ≡ true) where
  abbrev w : World
  w = world r es

  abbrev query : Query
  query = query_for n s a p k w.now

  abbrev response : Response
  response = record { id = n; apex = a; word = t }

  apex_is : c.zone.apex ≡ a
  apex_is = same_so c.zone.apex a (and_parts (same_label c.server s) (same c.zone.apex a) (first_some (is_copy_at s a) w.copies c there).1).1

  guard : (may_draw n w && may_ask r w.now w.cache a s && within a p) ≡ true
  guard =
      and_from (may_draw n w && may_ask r w.now w.cache a s) (within a p)
      (and_from (may_draw n w) (may_ask r w.now w.cache a s) (not_from_false (drawn n w.sent) new) may)
      (subst (λ x. within x p ≡ true) apex_is (word_laws.within_apex c.zone p k t tells-it))

  asked : world r (Asks n s a p k ∷ es) ≡ with_query query w
  unfolding world
  asked = cond-true (may_draw n w && may_ask r w.now w.cache a s && within a p) (with_query query w) w guard

  says_it : copy_says w.now query (copy_at s a w.copies) ≡ Some t
  says_it = ap (copy_says w.now query) there ∙ cond-true (unexpired w.now c) (tells c.zone p k) None good ∙ tells-it

  responded : world r (Responds query ∷ Asks n s a p k ∷ es) ≡ with_responses (response ∷ w.responses) (with_query query w)
  unfolding world
  responded =
      ap (λ v. respond query (copy_says v.now query (copy_at s a v.copies)) v) asked
      ∙ ap (λ o. respond query o (with_query query w)) says_it

  matched : matching response (query ∷ w.pending) ≡ Some query
  matched = first_here (matches response) query w.pending (and_from (eqb n n) (same a a) (eq-eqb n n refl) (so_same a a refl))

  abbrev after : World
  after = remember query t (with_responses (response ∷ w.responses) (with_query query w))

  abbrev three : List Event
  three = Hears response ∷ Responds query ∷ Asks n s a p k ∷ []

  heard : world r (three ++ es) ≡ after
  unfolding world
  heard =
      ap (λ (v : World). hear response (matching response v.pending) v) responded
      ∙ ap (λ o. hear response o (with_responses (response ∷ w.responses) (with_query query w))) matched

  three_brought : Brought r (three ++ es)
  three_brought = (
    subst (λ (v : World). Memᴰ response v.responses) (sym responded) (Memᴰ.head refl),
    (subst (λ (v : World). Memᴰ query v.sent) (sym asked) (Memᴰ.head refl), (tt, b)),
  )

  pub fetch_copied : Fetched HasCopy 3 r es k a p t
  fetch_copied =
      record {
        moves = three;
        brought = three_brought;
        only_moves = refl;
        wanted = λ q e. (tt, (tt, ((refl, e), tt)));
        bound = omega arith;
        offers = omega arith;
        query = query;
        key_apex = refl;
        key_name = refl;
        key_kind = refl;
        now_is = ap (λ (v : World). v.now) heard;
        published_is = ap (λ (v : World). v.published) heard;
        cache_is = ap (λ (v : World). v.cache) heard;
        still_can = λ u d h. subst (λ (v : World). HasCopy v u d) (sym heard) h;
      }

-- the same after a copying from the owner
module _ (r : Rules) (es : List Event) (b : Brought r es) (k : ℕ) (a p : Name) (s : Server) (t : Word) (z : Zone) (owned : current a (world r es).published ≡ Some z) (tells-it : tells z p k ≡ Some t) (may : may_ask r (world r es).now (world r es).cache a s ≡ true) where
  abbrev v : World
  v = world r es

  abbrev made : Offer
  made = record { zone = z; moment = v.now }

  abbrev copied : Copy
  copied = record { server = s; zone = z; taken = lower v.now v.now }

  abbrev two : List Event
  two = Takes s made v.now ∷ OffersOwn a ∷ []

  offered : world r (OffersOwn a ∷ es) ≡ offer made v
  unfolding world
  offered = ap (λ o. offer_own o v) owned

  taken : world r (two ++ es) ≡ take s made v.now (offer made v)
  unfolding world
  taken = ap (take s made v.now) offered

  two_brought : Brought r (two ++ es)
  two_brought = (subst (λ (u : World). Memᴰ made u.offered) (sym offered) (Memᴰ.head refl), (tt, b))

  there : copy_at s a (world r (two ++ es)).copies ≡ Some copied
  there =
      ap (λ (u : World). copy_at s a u.copies) taken
      ∙ first_here (is_copy_at s a) copied (kept (λ d. not (is_copy_at s z.apex d)) v.copies)
      (and_from (same_label s s) (same z.apex a) (label_same s s refl) (so_same z.apex a (current_apex a v.published z owned)))

  good : unexpired (world r (two ++ es)).now copied ≡ true
  good =
      let l = lower_same v.now in
      ap (λ (u : World). unexpired u.now copied) taken ∙ le-leb v.now (lower v.now v.now + z.expire) (omega arith)

  may_still : may_ask r (world r (two ++ es)).now (world r (two ++ es)).cache a s ≡ true
  may_still = ap (λ (u : World). may_ask r u.now u.cache a s) taken ∙ may

  pub fetch_any : Fetched AnyServer 4 r es k a p t
  unfolding fetch_copied
  fetch_any =
      let n = undrawn (world r (two ++ es)).sent in
      let f = fetch_copied r (two ++ es) two_brought n.0 n.1 k a p s t copied there good tells-it may_still in
      let ask_ok : (q : Name) → (shown r v q k).end ≡ LacksAt a p → (shown r (world r (two ++ es)) q k).end ≡ LacksAt a p = λ q e. ap (λ (u : World). (shown r u q k).end) taken ∙ e in
      record {
        moves = f.moves ++ two;
        brought = f.brought;
        only_moves = refl;
        wanted = λ q e. (tt, (tt, ((refl, ask_ok q e), (tt, (tt, tt)))));
        bound = omega arith;
        offers = omega arith;
        query = f.query;
        key_apex = refl;
        key_name = refl;
        key_kind = refl;
        now_is = f.now_is ∙ ap (λ (u : World). u.now) taken;
        published_is = f.published_is ∙ ap (λ (u : World). u.published) taken;
        cache_is = f.cache_is ∙ ap (λ (u : World). entry_for u.now f.query t ∷ forgotten a p k u.cache) taken;
        still_can = λ u d h. tt;
      }
