-- At most two queries for each server of 24 words are sent for one question.
use Rattle.std.proofs.Common.{◌≡◌, ℕ, ◌+◌, ◌*◌, ◌<◌, ◌≤◌, Bool, true, false, not, ◌&&◌, eqb, leb, ◌⊎◌, List, [], ◌∷◌, ◌++◌, length, get_or, Some, None, Ok, Option, sym, refl, ap, ◌∙◌, subst, inl, inr, ⊎_elim, true≢false, mul-le-mul, le_refl, arith}
use mathlib.Core.List.Memᴰ
use mathlib.Core.List.{Memᴰ}
use Rattle.names.specs.declared.fault.Fault.TheVariants.{BadData}
use Rattle.std.proofs.lemmas.Bool.{cond-true, cond_both, and_parts, and_from, not-true, leb-true, leb-false, eq-eqb}
use Rattle.names.specs.Order.{within}
use Rattle.meaning.specs.Model.{Delegation}
use Rattle.meaning.specs.Says.{same}
use Rattle.meaning.proofs.Rules.{so_same}
use Rattle.meaning.specs.Speech.{Said, Found, AliasTo, Referred, Empty, Absent}
use Rattle.protocol.specs.Words.{Name, Server, Word}
use Rattle.protocol.specs.World.{Rules, Query, Response, Entry, World, Event, Tick, Publishes, OffersOwn, OffersCopy, Takes, Asks, Responds, Hears, Forgets, with_published, with_query, current, rises, copy_at, unexpired, offer, offer_own, offer_copy, copy_says, respond, matching, hear, drawn, may_draw, may_ask, entry_for, query_for, step, world}
use Rattle.protocol.specs.Walks.{LacksAt, remembered, entry_said}
use Rattle.protocol.proofs.Lists.{some_none, some_any, first_some}
use Rattle.protocol.proofs.Settled.{found_by, held}
use Rattle.protocol.proofs.Steps.{inv}
use Rattle.machine.specs.Machine as machine
use Rattle.machine.specs.Machine.{max_words, max_tries, Tried, Question, Pending, State, with_walks, walk_of, servers_by, servers_after, servers_on, is_word, tried_of, count_of, too_many, exhausted, is_for, pending_for, Wants, standing, question, begin, settle, count_try, Sent, draw, misfit, in_use, Heard, keep, is_open, tick}
use Rattle.machine.specs.Refine.{sends, hearing, Joint, starts, begins, settles, draws, hears, ticks, others}
use Rattle.machine.specs.Bounds.{Call, to_begin, to_settle, to_draw, to_hear, to_tick, by_others, Spot, all_of, Stays, is_next, one_if, sent_for, Life, begun, goes_on, most, one_a_word, Counted}
use Rattle.machine.proofs.Alike.{in_map}
use Rattle.machine.proofs.Counting.{spent_counts, Tidy, tidy_none, tidy_counts, became, counted_new}
use Rattle.machine.proofs.Heard.{HeardSo, Stored, heard_so}
use Rattle.machine.proofs.Lives.{calls, NoneSent, Sending, drew_so, began_so, asked_draw, in_run, turn_is}
use Rattle.machine.proofs.Main.{runs}
use Rattle.machine.proofs.Standings.{wants_so}
use Rattle.machine.proofs.Storing.{store_laws}
use Rattle.machine.proofs.Trying.{more_counts, spent, spent_least, spent_one}

-- ---- ids that were drawn

module _ (r : Rules) (w : World) (q : Query) (m : Memᴰ q w.sent) where
  sent_own : (o : _) → Memᴰ q (offer_own o w).sent
  sent_own None = m
  sent_own (Some z) = m

  sent_copy : (o : _) → Memᴰ q (offer_copy o w).sent
  sent_copy None = m
  sent_copy (Some c) = cond_both (unexpired w.now c) (offer (record { zone = c.zone; moment = c.taken }) w) w (λ (v : World). Memᴰ q v.sent) (λ e. m) (λ e. m)

  sent_respond : (p : Query) (o : Option Word) → Memᴰ q (respond p o w).sent
  sent_respond p None = m
  sent_respond p (Some t) = m

  sent_hear : (y : Response) (o : Option Query) → Memᴰ q (hear y o w).sent
  sent_hear y None = m
  sent_hear y (Some p) = m

  sent_step : (e : Event) → Memᴰ q (step r e w).sent
  sent_step Tick = m
  sent_step (Publishes z) = cond_both (rises z (current z.apex w.published)) (with_published (record { moment = w.now; zone = z } ∷ w.published) w) w (λ (v : World). Memᴰ q v.sent) (λ e. m) (λ e. m)
  sent_step (OffersOwn a) = sent_own (current a w.published)
  sent_step (OffersCopy s a) = sent_copy (copy_at s a w.copies)
  sent_step (Takes s o n) = m
  sent_step (Asks n s a p k) = cond_both (may_draw n w && may_ask r w.now w.cache a s && within a p) (with_query (query_for n s a p k w.now) w) w (λ (v : World). Memᴰ q v.sent) (λ e. Memᴰ.tail m) (λ e. m)
  sent_step (Responds p) = sent_respond p (copy_says w.now p (copy_at p.server p.apex w.copies))
  sent_step (Hears y) = sent_hear y (matching y w.pending)
  sent_step (Forgets a p k) = m

sent_later : (r : Rules) (fs es : List Event) (q : Query) → Memᴰ q (world r es).sent → Memᴰ q (world r (fs ++ es)).sent
unfolding world
sent_later r [] es q m = m
sent_later r (e ∷ fs) es q m = sent_step r (world r (fs ++ es)) q (sent_later r fs es q m) e

-- an id under which a query was sent
abbrev pub Used : Rules → List Event → ℕ → Type 0
Used r es n = (q : Query) × Memᴰ q (world r es).sent × (q.id ≡ n)

pub not_new : (r : Rules) (es : List Event) (n : ℕ) → may_draw n (world r es) ≡ true → Used r es n → ⊥
not_new r es n new u = true≢false (sym (some_any (λ (q : Query). eqb q.id n) (world r es).sent u.0 u.1 (eq-eqb u.0.id n u.2)) ∙ not-true (drawn n (world r es).sent) new)

used_later : (r : Rules) (fs es : List Event) (n : ℕ) → Used r es n → Used r (fs ++ es) n
used_later r fs es n u = (u.0, sent_later r fs es u.0 u.1, u.2)

pub used_call : (r : Rules) (st : State) (es : List Event) (st' : State) (es' : List Event) → Call r st es st' es' → (n : ℕ) → Used r es n → Used r es' n
used_call r st es st' es' (to_begin v) n u = u
used_call r st es st' es' to_settle n u = u
used_call r st es st' es' (to_draw m may s e) n u = used_later r (sends s.query) es n u
used_call r st es st' es' (to_hear y m p f h e) n u = used_later r (hearing r st y p) es n u
used_call r st es st' es' to_tick n u = used_later r (Tick ∷ []) es n u
used_call r st es st' es' (by_others e o m) n u = used_later r (e ∷ []) es n u

pub pending_used : (r : Rules) (st : State) (es : List Event) → Joint r st es → (p : Pending) → Memᴰ p st.pending → Used r es p.query.id
pending_used r st es j p m =
    let run = runs r st es j in
    (p.query, (inv r es run.0).pending_sent p.query ((run.1.pending_is p.query).0 (in_map (λ (z : Pending). z.query) st.pending p m)), refl)

-- ---- the tries of a question that began with none

pub tidy_life : (r : Rules) (st : State) (es : List Event) (x : Spot) (m n : ℕ) → Life r st es x m n → Tidy (Used r es) x.asked.tries
tidy_life r st es x m n (begun j t q k h) = tidy_none (Used r es)
tidy_life r st es x m n (goes_on {st = s} {es = fs} {x = z} {sent = a} {seconds = b} l c k) =
    let g = in_run r s fs z a b l in
    let h = tidy_life r s fs z a b l in
    tidy_counts (Used r es) r s z.asked x.asked
    (became r s z g.1 fs x (λ p. Used r es p.query.id) st es c k (λ p i. ⊎_elim (λ y. used_call r s fs st es c p.query.id (pending_used r s fs g.0 p y)) (λ y. pending_used r st es (calls r s fs st es g.0 c) p y) i))
    (record { few = h.few; one = h.one; ids = λ t i. used_call r s fs st es c t.id (h.ids t i) })

pub few_words : (r : Rules) (st : State) (es : List Event) (x : Spot) (m n : ℕ) → Life r st es x m n → (length x.asked.tries ≤ max_words) × (one_a_word x.asked.tries ≡ true)
few_words r st es x m n l = let t = tidy_life r st es x m n l in (t.few, t.one)

-- ---- how many servers are named for a zone

abbrev pub FewServers : List Entry → Type 0
FewServers es = (e : Entry) → Memᴰ e es → (n : Name) (d : Delegation) → e.word.said ≡ Referred n d → length d.servers ≤ 16

few_fit : (q : Query) (n : Name) (d : Delegation) → misfit q (Referred n d) ≡ None → length d.servers ≤ 16
few_fit q n d h = go (leb 1 (length d.servers) && leb (length d.servers) 16) refl
  where
    few : Bool
    few = leb 1 (length d.servers) && leb (length d.servers) 16

    go : (b : Bool) → (leb 1 (length d.servers) && leb (length d.servers) 16) ≡ b → length d.servers ≤ 16
    go true e = leb-true (length d.servers) 16 (and_parts (leb 1 (length d.servers)) (leb (length d.servers) 16) e).1
    go false e = absurd (some_none BadData (sym h ∙ cond-true (not (leb 1 (length d.servers) && leb (length d.servers) 16)) (Some BadData) _ (ap not e)))

-- the members of the cache after a response was heard
pub heard_members : (r : Rules) (y : Response) (st : State) (es : List Event) → Joint r st es → (p : Pending) (h : Heard) → HeardSo r y st p h → (f : Entry) → Memᴰ f h.state.cache → (f ≡ entry_for st.now p.query y.word) ⊎ Memᴰ f st.cache
heard_members r y st es j p h so f m = go so.stored
  where
    go : Stored r y st p h → (f ≡ entry_for st.now p.query y.word) ⊎ Memᴰ f st.cache
    go (inl k) =
        ⊎_elim (λ e. inl e) (λ e. inr e.0)
        ((store_laws.kept r (in_use r st) (entry_for st.now p.query y.word) st.cache k.0 (runs r st es j).1.keys k.1 f).0 (subst (λ (s : State). Memᴰ f s.cache) k.2 m))
    go (inr k) =
        ⊎_elim (λ e. inl e) (λ e. inr e.0)
        (((store_laws.ousted r (in_use r st) (entry_for st.now p.query y.word) st.cache k.1 k.0 (runs r st es j).1.keys k.2).2 f).0 (subst (λ (s : State). Memᴰ f s.cache) k.3 m))

pub few_servers : (r : Rules) (st : State) (es : List Event) → Joint r st es → FewServers st.cache
unfolding tick
few_servers r st es starts = λ e m. absurd (Memᴰ.not-nil m)
few_servers r st es (begins {st = s} {es = fs} j v) = subst (λ (z : State). FewServers z.cache) (sym (began_so r v s).1) (few_servers r s fs j)
few_servers r st es (settles {st = s} {es = fs} j) = few_servers r s fs j
few_servers r st es (draws {st = s} {es = fs} j n may t e) =
    ⊎_elim (λ k. subst (λ (z : Sent). FewServers z.state.cache) (sym k) (few_servers r s fs j)) (λ (k : Sending r n s t). subst (λ (z : Sent). FewServers z.state.cache) (sym k.sent_is) (few_servers r s fs j)) (drew_so r n s t e)
few_servers r st es (hears {st = s} {es = fs} j y m p f h e) = λ g i n d is.
    let so = heard_so r y s p h f e in
    ⊎_elim (λ made. few_fit p.query n d (ap (misfit p.query) (sym is ∙ ap (λ (z : Entry). z.word.said) made) ∙ so.fitting)) (λ k. few_servers r s fs j g k n d is) (heard_members r y s fs j p h so g i)
few_servers r st es (ticks {st = s} {es = fs} j) = few_servers r s fs j
few_servers r st es (others {st = s} {es = fs} j e o m) = few_servers r s fs j

module _ (r : Rules) where
  few_by : (s : Said) → ((n : Name) (d : Delegation) → s ≡ Referred n d → length d.servers ≤ 16) → length (servers_by r.roots s) ≤ most r
  few_by (Referred n d) h = let l = h n d refl in omega arith
  few_by (Found c) h = omega arith
  few_by (AliasTo n) h = omega arith
  few_by Empty h = omega arith
  few_by Absent h = omega arith

  few_after : (ws : List Entry) (named : List Server) → length named ≤ most r → FewServers ws → length (servers_after r.roots named ws) ≤ most r
  unfolding servers_after
  few_after [] named l h = l
  few_after (e ∷ ws) named l h = few_after ws (servers_by r.roots e.word.said) (few_by e.word.said (λ n d is. h e (Memᴰ.head refl) n d is)) (λ f m. h f (Memᴰ.tail m))

  pub few_on : (st : State) → FewServers st.cache → (u : Question) → length (servers_on r (walk_of r st u).words) ≤ most r
  few_on st h u =
      few_after (walk_of r st u).words r.roots (omega arith)
      (λ e m n d is.
      let g = found_by entry_said (remembered r st.now st.cache u.kind) 24 [] u.name e m in
      h e (held r st.now st.cache u.kind g.0 g.1 e g.2).there n d is)

-- ---- each query counts

module _ (r : Rules) (small : length r.roots ≤ 32) where
  -- a query for the word that a question lacks and may ask for again counts one more, which was not spent
  module _ (st : State) (es : List Event) (j : Joint r st es) (u : Question) (a p : Name) (lacks : (walk_of r st u).end ≡ LacksAt a p) (may_use : too_many (tried_of a p u.tries) u.tries ≡ false) (left : exhausted (servers_on r (walk_of r st u).words) (tried_of a p u.tries) ≡ false) (z : Pending) (for_it : is_for a p u.kind z ≡ true) (new : (t : Tried) → tried_of a p u.tries ≡ Some t → t.id ≡ z.query.id → ⊥) where
    pub few_of : length (servers_on r (walk_of r st u).words) ≤ most r
    few_of = few_on r st (few_servers r st es j) u

    pub try_left : count_of (tried_of a p u.tries) < 2 * length (servers_on r (walk_of r st u).words)
    try_left = leb-false (2 * length (servers_on r (walk_of r st u).words)) (count_of (tried_of a p u.tries)) left

    pub one_more : count_of (tried_of a p (count_try r st z u).tries) ≡ count_of (tried_of a p u.tries) + 1
    one_more =
        let l = try_left in
        let f = few_of in
        ap (λ ts. count_of (tried_of a p ts)) (counted_new r st u a p lacks may_use z for_it) ∙ more_counts a p z.place z.query.id u.tries new (omega arith)

    pub spent_up : spent (2 * most r) (count_try r st z u).tries ≡ spent (2 * most r) u.tries + 1
    spent_up =
        let l = try_left in
        let f = few_of in
        ap (spent (2 * most r)) (counted_new r st u a p lacks may_use z for_it) ∙ spent_one (2 * most r) a p z.place z.query.id (omega arith) u.tries new (omega arith)

-- a question that wants a query may have one
pub record MayHave (r : Rules) (st : State) (u : Question) (a p : Name) (ss : List Server) : Type 0 where
  pub lacks : (walk_of r st u).end ≡ LacksAt a p
  pub may_use : too_many (tried_of a p u.tries) u.tries ≡ false
  pub left : exhausted (servers_on r (walk_of r st u).words) (tried_of a p u.tries) ≡ false
  pub servers_are : ss ≡ servers_on r (walk_of r st u).words
  pub not_pending : pending_for a p u.kind st.pending ≡ None

pub may_have : (r : Rules) (st : State) (u : Question) (a p : Name) (ss : List Server) (o : Option Tried) → standing r st u ≡ Wants a p ss o → MayHave r st u a p ss
may_have r st u a p ss o w =
    let k = wants_so r st u a p ss o w in
    record { lacks = k.lacks; may_use = k.may_use; left = (λ i. exhausted (sym k.servers_are i) (sym k.tried_is i)) ∙ k.try_left; servers_are = k.servers_are; not_pending = k.not_pending }

-- the query that is sent when it is a question's turn
pub record Turn (r : Rules) (st : State) (n : ℕ) (s : Sent) (x : Spot) : Type 0 where
  pub sending : Sending r n st s
  pub apex : Name
  pub name : Name
  pub servers : List Server
  pub try : Option Tried
  pub wanted : standing r st x.asked ≡ Wants apex name servers try
  pub for_it : is_for apex name x.asked.kind sending.pending ≡ true
  pub id_is : sending.pending.query.id ≡ n

is_for_made : (n : ℕ) (s : Server) (a p : Name) (k now : ℕ) (z : Pending) → z.query ≡ query_for n s a p k now → is_for a p k z ≡ true
is_for_made n s a p k now z e =
    and_from (same z.query.apex a && same z.query.name p) (eqb z.query.kind k)
    (and_from (same z.query.apex a) (same z.query.name p) (so_same z.query.apex a (ap (λ (q : Query). q.apex) e)) (so_same z.query.name p (ap (λ (q : Query). q.name) e)))
    (eq-eqb z.query.kind k (ap (λ (q : Query). q.kind) e))

pub turn : (r : Rules) (st : State) (n : ℕ) (s : Sent) (x : Spot) → st.walks ≡ all_of x → draw r n st ≡ Ok s → one_if (is_next r st x) s.query ≡ 1 → Turn r st n s x
turn r st n s x at e one = go (drew_so r n st s e)
  where
    by : (b : Bool) → is_next r st x ≡ b → Sending r n st s → Turn r st n s x
    by true f k =
        let i = turn_is r n st s x at f k in
        record {
          sending = k;
          apex = k.apex;
          name = k.name;
          servers = k.servers;
          try = k.try;
          wanted = ap (standing r st) i ∙ k.wanted;
          for_it = is_for_made n (get_or k.servers (machine.place_for n (length k.servers) k.try) []) k.apex k.name x.asked.kind st.now k.pending (k.query_is ∙ ap (λ (u : Question). query_for n (get_or k.servers (machine.place_for n (length k.servers) k.try) []) k.apex k.name u.kind st.now) (sym i));
          id_is = ap (λ (q : Query). q.id) k.query_is;
        }
    by false f k =
        let z : one_if (is_next r st x) s.query ≡ 0 = (λ i. one_if (f i) s.query) ∙ ap (one_if false) (ap (λ (t : Sent). t.query) k.sent_is) in
        absurd (omega arith)

    go : NoneSent st s ⊎ Sending r n st s → Turn r st n s x
    go (inl h) = let z = ap (λ (t : Sent). one_if (is_next r st x) t.query) h in absurd (omega arith)
    go (inr k) = by (is_next r st x) refl k

-- a new id is that of no try
pub new_for : (r : Rules) (es : List Event) (ts : List Tried) → Tidy (Used r es) ts → (i : ℕ) → may_draw i (world r es) ≡ true → (z : Pending) → z.query.id ≡ i → (a p : Name) (t : Tried) → tried_of a p ts ≡ Some t → t.id ≡ z.query.id → ⊥
new_for r es ts tidy i may z id_is a p t f is =
    let u = tidy.ids t (first_some (is_word a p) ts t f).0 in
    not_new r es i may (u.0, u.1, u.2 ∙ is ∙ id_is)

module _ (r : Rules) (small : length r.roots ≤ 32) (st : State) (es : List Event) (x y : Spot) (m n : ℕ) (l : Life r st es x m n) (i : ℕ) (may : may_draw i (world r es) ≡ true) (s : Sent) (e : draw r i st ≡ Ok s) (k : Stays r st es s.state (sends s.query ++ es) (to_draw i may s e) x y) (one : one_if (is_next r st x) s.query ≡ 1) where
  own : Turn r st i s x
  own = turn r st i s x (in_run r st es x m n l).1 e one

  own_new : (t : Turn r st i s x) → (v : Tried) → tried_of t.apex t.name x.asked.tries ≡ Some v → v.id ≡ t.sending.pending.query.id → ⊥
  own_new t = new_for r es x.asked.tries (tidy_life r st es x m n l) i may t.sending.pending t.id_is t.apex t.name

  may_own : (t : Turn r st i s x) → MayHave r st x.asked t.apex t.name t.servers
  may_own t = may_have r st x.asked t.apex t.name t.servers t.try t.wanted

  draw_counts : Counted r st x.asked y.asked
  draw_counts =
      let g = in_run r st es x m n l in
      let t = own in
      let h = may_own t in
      let few = few_of r small st es g.0 x.asked t.apex t.name h.lacks h.may_use h.left t.sending.pending t.for_it (own_new t) in
      let left = try_left r small st es g.0 x.asked t.apex t.name h.lacks h.may_use h.left t.sending.pending t.for_it (own_new t) in
      let same = ap length h.servers_are in
      record {
        apex = t.apex;
        name = t.name;
        servers = t.servers;
        wanted = t.wanted ∙ ap (Wants t.apex t.name t.servers) (wants_so r st x.asked t.apex t.name t.servers t.try t.wanted).tried_is;
        few_servers = omega arith;
        left = omega arith;
        one_more = ap (λ (v : Question). count_of (tried_of t.apex t.name v.tries)) (asked_draw r st x g.1 es y i may s e t.sending k)
            ∙ one_more r small st es g.0 x.asked t.apex t.name h.lacks h.may_use h.left t.sending.pending t.for_it (own_new t);
      }

  draw_spends : spent (2 * most r) y.asked.tries ≡ spent (2 * most r) x.asked.tries + 1
  draw_spends =
      let g = in_run r st es x m n l in
      let t = own in
      let h = may_own t in
      ap (λ (v : Question). spent (2 * most r) v.tries) (asked_draw r st x g.1 es y i may s e t.sending k)
      ∙ spent_up r small st es g.0 x.asked t.apex t.name h.lacks h.may_use h.left t.sending.pending t.for_it (own_new t)

pub each_counts : (r : Rules) → length r.roots ≤ 32 → (st : State) (es : List Event) (st' : State) (es' : List Event) (x y : Spot) (m n : ℕ) → Life r st es x m n → (c : Call r st es st' es') → Stays r st es st' es' c x y → sent_for c x ≡ 1 → Counted r st x.asked y.asked
each_counts r small st es st' es' x y m n l (to_draw i may s e) k one = draw_counts r small st es x y m n l i may s e k one
each_counts r small st es st' es' x y m n l (to_begin v) k one = absurd (omega arith)
each_counts r small st es st' es' x y m n l to_settle k one = absurd (omega arith)
each_counts r small st es st' es' x y m n l (to_hear z i p f h e) k one = absurd (omega arith)
each_counts r small st es st' es' x y m n l to_tick k one = absurd (omega arith)
each_counts r small st es st' es' x y m n l (by_others e o i) k one = absurd (omega arith)

-- ---- no more are sent than were spent

one_or_none : (b : Bool) (o : Option Query) → (one_if b o ≡ 0) ⊎ (one_if b o ≡ 1)
one_or_none b None = inl refl
one_or_none true (Some q) = inr refl
one_or_none false (Some q) = inl refl

-- a call spends at least what it sends
sent_call : (r : Rules) → length r.roots ≤ 32 → (st : State) (es : List Event) (st' : State) (es' : List Event) (x y : Spot) (m n : ℕ) → Life r st es x m n → (c : Call r st es st' es') → Stays r st es st' es' c x y → spent (2 * most r) x.asked.tries ≤ spent (2 * most r) y.asked.tries → spent (2 * most r) x.asked.tries + sent_for c x ≤ spent (2 * most r) y.asked.tries
sent_call r small st es st' es' x y m n l (to_draw i may d e) k more = ⊎_elim (λ none. omega arith) (λ one. let up = draw_spends r small st es x y m n l i may d e k one in omega arith) (one_or_none (is_next r st x) d.query)
sent_call r small st es st' es' x y m n l (to_begin v) k more = omega arith
sent_call r small st es st' es' x y m n l to_settle k more = omega arith
sent_call r small st es st' es' x y m n l (to_hear z i p f h e) k more = omega arith
sent_call r small st es st' es' x y m n l to_tick k more = omega arith
sent_call r small st es st' es' x y m n l (by_others e o i) k more = omega arith

-- no call takes from what was spent
pub spent_call : (r : Rules) (st : State) (es : List Event) (st' : State) (es' : List Event) (x y : Spot) (m n : ℕ) → Life r st es x m n → (c : Call r st es st' es') → Stays r st es st' es' c x y → spent (2 * most r) x.asked.tries ≤ spent (2 * most r) y.asked.tries
spent_call r st es st' es' x y m n l c k = spent_counts (2 * most r) r st (λ p. Unit {0}) x.asked y.asked (became r st x (in_run r st es x m n l).1 es y (λ p. Unit {0}) st' es' c k (λ p i. tt))

pub spent_life : (r : Rules) → length r.roots ≤ 32 → (st : State) (es : List Event) (x : Spot) (m n : ℕ) → Life r st es x m n → m ≤ spent (2 * most r) x.asked.tries
unfolding spent
spent_life r small st es x m n (begun j t q k h) = omega arith
spent_life r small st es x m n (goes_on {st = s} {es = fs} {x = z} {sent = a} {seconds = b} l c k) =
    let ih = spent_life r small s fs z a b l in
    let up = sent_call r small s fs st es z x a b l c k (spent_call r s fs st es z x a b l c k) in
    omega arith

pub spent_bound : (top : ℕ) (ts : List Tried) → length ts ≤ 24 → spent top ts ≤ 24 * top
spent_bound top ts few = let a = spent_least top ts in let b : length ts * top ≤ 24 * top = mul-le-mul few (le_refl top) in omega arith

pub sent_few : (r : Rules) → length r.roots ≤ 32 → (st : State) (es : List Event) (x : Spot) (m n : ℕ) → Life r st es x m n → m ≤ max_words * (max_tries * most r)
sent_few r small st es x m n l =
    let a = spent_life r small st es x m n l in
    let b = spent_bound (2 * most r) x.asked.tries (tidy_life r st es x m n l).few in
    omega arith
