-- The invariant of every state of a run: what is copied, offered, said and remembered is true since its moment.
use Rattle.std.proofs.Common.{◌≡◌, ℕ, ◌+◌, ◌≤◌, false, not, eqb, leb, List, ◌∷◌, Some, sym, refl, ap, ◌∙◌, subst, ⊎_elim, arith}
use mathlib.Core.List.Memᴰ
use mathlib.Core.List.{Memᴰ}
use Rattle.std.proofs.lemmas.Bool.{not-true, leb-true, eqb-false, eq-eqb}
use Rattle.meaning.specs.Model.{Zone}
use Rattle.protocol.specs.Words.{Name, Word, tells}
use Rattle.protocol.specs.World.{Rules, Offer, Copy, Query, Response, Entry, World, with_time, with_published, with_offered, with_copies, with_query, with_responses, with_cache, is_copy_at, with_copy, drawn, still_pending, closed, is_key, forgotten, entry_for, remember}
use Rattle.protocol.specs.History.{in_force}
use Rattle.protocol.specs.Promise.{TrueSince, FromQuery}
use Rattle.protocol.proofs.Lists.{kept_in, any_none}
use Rattle.protocol.proofs.Force.{force_later, force_more}

-- ---- what a later state keeps

pub record Later (w v : World) : Type 0 where
  pub force : (m : ℕ) (a : Name) (z : Zone) → Memᴰ z (in_force w.now m a w.published) → Memᴰ z (in_force v.now m a v.published)
  pub sends : (q : Query) → Memᴰ q w.sent → Memᴰ q v.sent
  pub time : w.now ≤ v.now

-- ---- the invariant

-- a response is to a query that was sent; its word was said at a moment at most its zone's expire before the query
pub record TrueResponse (w : World) (x : Response) : Type 0 where
  pub query : Query
  pub sent : Memᴰ query w.sent
  pub id_is : query.id ≡ x.id
  pub zone : Zone
  pub moment : ℕ
  pub is_in_force : Memᴰ zone (in_force w.now moment query.apex w.published)
  pub tells_so : tells zone query.name query.kind ≡ Some x.word
  pub age : query.asked ≤ moment + zone.expire

pub record TrueEntry (r : Rules) (w : World) (e : Entry) : Type 0 where
  pub zone : Zone
  pub moment : ℕ
  pub is_in_force : Memᴰ zone (in_force w.now moment e.apex w.published)
  pub tells_so : tells zone e.name e.kind ≡ Some e.word
  pub age : e.heard ≤ moment + (r.patience + zone.expire)
  pub past : e.heard ≤ w.now
  pub from : FromQuery r w e

pub record Inv (r : Rules) (w : World) : Type 0 where
  pub copy : (c : Copy) → Memᴰ c w.copies → TrueSince w c.taken c.zone
  pub offer : (o : Offer) → Memᴰ o w.offered → TrueSince w o.moment o.zone
  pub pending_sent : (q : Query) → Memᴰ q w.pending → Memᴰ q w.sent
  pub pending_open : (q : Query) → Memᴰ q w.pending → w.now ≤ q.asked + r.patience
  pub sent_past : (q : Query) → Memᴰ q w.sent → q.asked ≤ w.now
  pub sent_once : (p q : Query) → Memᴰ p w.sent → Memᴰ q w.sent → p.id ≡ q.id → p ≡ q
  pub response : (x : Response) → Memᴰ x w.responses → TrueResponse w x
  pub entry : (e : Entry) → Memᴰ e w.cache → TrueEntry r w e

-- ---- each record in a later state

module _ {w v : World} (l : Later w v) where
  response_later : {x : Response} → TrueResponse w x → TrueResponse v x
  response_later t =
      record {
        query = t.query;
        sent = l.sends t.query t.sent;
        id_is = t.id_is;
        zone = t.zone;
        moment = t.moment;
        is_in_force = l.force t.moment t.query.apex t.zone t.is_in_force;
        tells_so = t.tells_so;
        age = t.age;
      }

  query_later : {r : Rules} {e : Entry} → ((p : Query) → Memᴰ p v.pending → p.id ≡ e.id → ⊥) → FromQuery r w e → FromQuery r v e
  query_later gone f =
      record {
        query = f.query;
        sent = l.sends f.query f.sent;
        id_is = f.id_is;
        server_is = f.server_is;
        apex_is = f.apex_is;
        name_is = f.name_is;
        kind_is = f.kind_is;
        asked_before = f.asked_before;
        in_time = f.in_time;
        now_closed = gone;
      }

  entry_later : {r : Rules} (e : Entry) → ((p : Query) → Memᴰ p v.pending → p.id ≡ e.id → ⊥) → TrueEntry r w e → TrueEntry r v e
  entry_later e gone t =
      record {
        zone = t.zone;
        moment = t.moment;
        is_in_force = l.force t.moment e.apex t.zone t.is_in_force;
        tells_so = t.tells_so;
        age = t.age;
        past = let p = t.past in let n = l.time in omega arith;
        from = query_later gone t.from;
      }

-- ---- what each group of fields may do

module _ (r : Rules) (w : World) (i : Inv r w) where
  tick_later : (qs : List Query) → Later w (with_time (w.now + 1) qs w)
  tick_later qs = record { force = λ m a z h. force_later a w.published w.now (w.now + 1) m m z (omega arith) (omega arith) h; sends = λ q h. h; time = omega arith }

  pub inv_time : Inv r (with_time (w.now + 1) (still_pending r (w.now + 1) w.pending) w)
  inv_time =
      let n = w.now + 1 in
      let open_until = λ (q : Query). leb n (q.asked + r.patience) in
      let l = tick_later (still_pending r n w.pending) in
      record {
        copy = λ c h. l.force c.taken c.zone.apex c.zone (i.copy c h);
        offer = λ o h. l.force o.moment o.zone.apex o.zone (i.offer o h);
        pending_sent = λ q h. i.pending_sent q (kept_in open_until w.pending q h).0;
        pending_open = λ q h. leb-true n (q.asked + r.patience) (kept_in open_until w.pending q h).1;
        sent_past = λ q h. let p = i.sent_past q h in omega arith;
        sent_once = i.sent_once;
        response = λ x h. response_later l (i.response x h);
        entry = λ e h. entry_later l e (λ p m s. (i.entry e h).from.now_closed p (kept_in open_until w.pending p m).0 s) (i.entry e h);
      }

  publish_later : (z : Zone) → Later w (with_published (record { moment = w.now; zone = z } ∷ w.published) w)
  publish_later z = record { force = λ m a y h. force_more a (record { moment = w.now; zone = z }) w.published m y h; sends = λ q h. h; time = omega arith }

  pub inv_published : (z : Zone) → Inv r (with_published (record { moment = w.now; zone = z } ∷ w.published) w)
  inv_published z =
      let l = publish_later z in
      record {
        copy = λ c h. l.force c.taken c.zone.apex c.zone (i.copy c h);
        offer = λ o h. l.force o.moment o.zone.apex o.zone (i.offer o h);
        pending_sent = i.pending_sent;
        pending_open = i.pending_open;
        sent_past = i.sent_past;
        sent_once = i.sent_once;
        response = λ x h. response_later l (i.response x h);
        entry = λ e h. entry_later l e (i.entry e h).from.now_closed (i.entry e h);
      }

  -- a state with the same time, history and queries
  still : (v : World) → ((m : ℕ) (a : Name) (z : Zone) → Memᴰ z (in_force w.now m a w.published) → Memᴰ z (in_force v.now m a v.published)) → ((q : Query) → Memᴰ q w.sent → Memᴰ q v.sent) → w.now ≤ v.now → Later w v
  still v f s t = record { force = f; sends = s; time = t }

  pub inv_offered : (o : Offer) → TrueSince w o.moment o.zone → Inv r (with_offered (o ∷ w.offered) w)
  inv_offered o t =
      let l = still (with_offered (o ∷ w.offered) w) (λ m a z h. h) (λ q h. h) (omega arith) in
      record {
        copy = i.copy;
        offer = λ p h. ⊎_elim (λ e. subst (λ (x : Offer). TrueSince w x.moment x.zone) (sym e) t) (i.offer p) (Memᴰ.cases_cons h);
        pending_sent = i.pending_sent;
        pending_open = i.pending_open;
        sent_past = i.sent_past;
        sent_once = i.sent_once;
        response = λ x h. response_later l (i.response x h);
        entry = λ e h. entry_later l e (i.entry e h).from.now_closed (i.entry e h);
      }

  pub inv_copies : (c : Copy) → TrueSince w c.taken c.zone → Inv r (with_copies (with_copy c w.copies) w)
  inv_copies c t =
      let l = still (with_copies (with_copy c w.copies) w) (λ m a z h. h) (λ q h. h) (omega arith) in
      record {
        copy = λ d h. ⊎_elim (λ e. subst (λ (x : Copy). TrueSince w x.taken x.zone) (sym e) t) (λ m. i.copy d (kept_in (λ x. not (is_copy_at c.server c.zone.apex x)) w.copies d m).0) (Memᴰ.cases_cons h);
        offer = i.offer;
        pending_sent = i.pending_sent;
        pending_open = i.pending_open;
        sent_past = i.sent_past;
        sent_once = i.sent_once;
        response = λ x h. response_later l (i.response x h);
        entry = λ e h. entry_later l e (i.entry e h).from.now_closed (i.entry e h);
      }

  pub inv_query : (q : Query) → q.asked ≡ w.now → drawn q.id w.sent ≡ false → Inv r (with_query q w)
  inv_query q now_is fresh =
      let l = still (with_query q w) (λ m a z h. h) (λ p h. Memᴰ.tail h) (omega arith) in
      let other : (p : Query) → Memᴰ p w.sent → p.id ≡ q.id → ⊥ = λ p h e. any_none (λ (x : Query). eqb x.id q.id) w.sent fresh p h (eq-eqb p.id q.id e) in
      record {
        copy = i.copy;
        offer = i.offer;
        pending_sent = λ p h. ⊎_elim (λ e. Memᴰ.head e) (λ m. Memᴰ.tail (i.pending_sent p m)) (Memᴰ.cases_cons h);
        pending_open = λ p h. ⊎_elim (λ e. let a = ap (λ (x : Query). x.asked) e in omega arith) (i.pending_open p) (Memᴰ.cases_cons h);
        sent_past = λ p h. ⊎_elim (λ e. let a = ap (λ (x : Query). x.asked) e in omega arith) (i.sent_past p) (Memᴰ.cases_cons h);
        sent_once = λ p s h k e. ⊎_elim
            (λ (a : p ≡ q). ⊎_elim (λ (b : s ≡ q). a ∙ sym b) (λ m. absurd (other s m (sym e ∙ ap (λ (x : Query). x.id) a))) (Memᴰ.cases_cons k))
            (λ m. ⊎_elim (λ (b : s ≡ q). absurd (other p m (e ∙ ap (λ (x : Query). x.id) b))) (λ n. i.sent_once p s m n e) (Memᴰ.cases_cons k))
            (Memᴰ.cases_cons h);
        response = λ x h. response_later l (i.response x h);
        entry = λ e h. let t = i.entry e h in entry_later l e (λ p m s. ⊎_elim (λ (b : p ≡ q). other t.from.query t.from.sent (t.from.id_is ∙ sym s ∙ ap (λ (x : Query). x.id) b)) (λ n. t.from.now_closed p n s) (Memᴰ.cases_cons m)) t;
      }

  pub inv_responses : (x : Response) → TrueResponse w x → Inv r (with_responses (x ∷ w.responses) w)
  inv_responses x t =
      let l = still (with_responses (x ∷ w.responses) w) (λ m a z h. h) (λ q h. h) (omega arith) in
      record {
        copy = i.copy;
        offer = i.offer;
        pending_sent = i.pending_sent;
        pending_open = i.pending_open;
        sent_past = i.sent_past;
        sent_once = i.sent_once;
        response = λ y h. response_later l (⊎_elim (λ e. subst (TrueResponse w) (sym e) t) (i.response y) (Memᴰ.cases_cons h));
        entry = λ e h. entry_later l e (i.entry e h).from.now_closed (i.entry e h);
      }

  pub inv_forgotten : (a q : Name) (k : ℕ) → Inv r (with_cache w.pending (forgotten a q k w.cache) w)
  inv_forgotten a q k =
      let l = still (with_cache w.pending (forgotten a q k w.cache) w) (λ m a z h. h) (λ q h. h) (omega arith) in
      record {
        copy = i.copy;
        offer = i.offer;
        pending_sent = i.pending_sent;
        pending_open = i.pending_open;
        sent_past = i.sent_past;
        sent_once = i.sent_once;
        response = λ x h. response_later l (i.response x h);
        entry = λ e h. let t = i.entry e (kept_in (λ f. not (is_key a q k f)) w.cache e h).0 in entry_later l e t.from.now_closed t;
      }

  -- a pending query is closed by a true response to it
  pub inv_remember : (q : Query) (t : Word) → Memᴰ q w.pending → (x : Response) → TrueResponse w x → q.id ≡ x.id → x.word ≡ t → Inv r (remember q t w)
  inv_remember q t pending x true-x id_is word_is =
      let shut = λ (p : Query). not (eqb p.id q.id) in
      let l = still (remember q t w) (λ m a z h. h) (λ p h. h) (omega arith) in
      let still_open : (p : Query) → Memᴰ p (closed q.id w.pending) → Memᴰ p w.pending = λ p h. (kept_in shut w.pending p h).0 in
      let gone : (p : Query) → Memᴰ p (closed q.id w.pending) → p.id ≡ q.id → ⊥ = λ p h e. eqb-false p.id q.id (not-true (eqb p.id q.id) (kept_in shut w.pending p h).1) e in
      let one : true-x.query ≡ q = i.sent_once true-x.query q true-x.sent (i.pending_sent q pending) (true-x.id_is ∙ sym id_is) in
      let Asked-is = ap (λ (p : Query). p.asked) one in
      let in_time = i.pending_open q pending in
      let asked-past = i.sent_past q (i.pending_sent q pending) in
      let older = true-x.age in
      let made : TrueEntry r (remember q t w) (entry_for w.now q t) = record {
        zone = true-x.zone;
        moment = true-x.moment;
        is_in_force = subst (λ (p : Query). Memᴰ true-x.zone (in_force w.now true-x.moment p.apex w.published)) one true-x.is_in_force;
        tells_so = subst (λ (p : Query). tells true-x.zone p.name p.kind ≡ Some t) one (true-x.tells_so ∙ ap Some word_is);
        age = omega arith;
        past = omega arith;
        from = record {
          query = q;
          sent = i.pending_sent q pending;
          id_is = refl;
          server_is = refl;
          apex_is = refl;
          name_is = refl;
          kind_is = refl;
          asked_before = asked-past;
          in_time = in_time;
          now_closed = gone;
        };
      } in
      record {
        copy = i.copy;
        offer = i.offer;
        pending_sent = λ p h. i.pending_sent p (still_open p h);
        pending_open = λ p h. i.pending_open p (still_open p h);
        sent_past = i.sent_past;
        sent_once = i.sent_once;
        response = λ y h. response_later l (i.response y h);
        entry = λ e h. ⊎_elim
            (λ (e-is : e ≡ entry_for w.now q t). subst (TrueEntry r (remember q t w)) (sym e-is) made)
            (λ m. let u = i.entry e (kept_in (λ f. not (is_key q.apex q.name q.kind f)) w.cache e m).0 in entry_later l e (λ p n s. u.from.now_closed p (still_open p n) s) u)
            (Memᴰ.cases_cons h);
      }
