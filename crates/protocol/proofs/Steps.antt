-- Every event keeps the invariant, and what was true stays true.
use Rattle.std.proofs.Common.{◌≡◌, ℕ, ◌+◌, ◌≤◌, Bool, true, false, ◌&&◌, eqb, ltb, ◌⊎◌, List, [], ◌∷◌, Some, None, Option, sym, refl, ap, ◌∙◌, subst, inl, inr, ⊎_elim, arith}
use mathlib.Core.List.Memᴰ
use mathlib.Core.List.{Memᴰ}
use Rattle.std.proofs.lemmas.Bool.{cond-true, cond-false, cond_both, and_parts, not-true, leb-true, ltb-true, ltb-false, eqb-true}
use Rattle.names.specs.Order.{same_label, within}
use Rattle.meaning.specs.Model.{Zone}
use Rattle.meaning.specs.Says.{same}
use Rattle.meaning.proofs.Rules.{same_so}
use Rattle.protocol.specs.Words.{Name, Server, Word, tells}
use Rattle.protocol.specs.World.{Rules, Offer, Copy, Query, Response, World, Event, Tick, Publishes, OffersOwn, OffersCopy, Takes, Asks, Responds, Hears, Forgets, start, with_published, with_query, current, rises, publish, lower, is_copy_at, copy_at, unexpired, offer, offer_own, offer_copy, take, copy_says, respond, drawn, may_ask, may_draw, ask, matches, matching, hear, query_for, step, world, May, Brought}
use Rattle.protocol.specs.History.{in_force}
use Rattle.protocol.specs.Promise.{TrueSince}
use Rattle.protocol.proofs.Lists.{first_some, some_none}
use Rattle.protocol.proofs.Force.{force_later, force_now, current_apex}
use Rattle.protocol.proofs.Inv.{Inv, inv_time, inv_published, inv_offered, inv_copies, inv_query, inv_responses, inv_forgotten, inv_remember}

pub lower_left : (m n : ℕ) → lower m n ≤ m
lower_left m n = cond_both (ltb m n) m n (λ x. x ≤ m) (λ e. omega arith) (λ e. ltb-false m n e)

pub lower_right : (m n : ℕ) → lower m n ≤ n
lower_right m n = cond_both (ltb m n) m n (λ x. x ≤ n) (λ e. let l = ltb-true m n e in omega arith) (λ e. omega arith)

-- ---- the shape of each event: nothing, or its change

pub publishes : (z : Zone) (w : World) → (publish z w ≡ w) ⊎ ((publish z w ≡ with_published (record { moment = w.now; zone = z } ∷ w.published) w) × (rises z (current z.apex w.published) ≡ true))
publishes z w = go (rises z (current z.apex w.published)) refl
  where
    go : (b : Bool) → rises z (current z.apex w.published) ≡ b → (publish z w ≡ w) ⊎ ((publish z w ≡ with_published (record { moment = w.now; zone = z } ∷ w.published) w) × (rises z (current z.apex w.published) ≡ true))
    go true e = inr (cond-true (rises z (current z.apex w.published)) (with_published (record { moment = w.now; zone = z } ∷ w.published) w) w e, e)
    go false e = inl (cond-false (rises z (current z.apex w.published)) (with_published (record { moment = w.now; zone = z } ∷ w.published) w) w e)

-- what is offered was true
module _ (r : Rules) (w : World) (i : Inv r w) where
  own_true : (a : Name) (z : Zone) → current a w.published ≡ Some z → TrueSince w w.now z
  own_true a z e = force_now z.apex w.published w.now w.now z (ap (λ b. current b w.published) (current_apex a w.published z e) ∙ e) (omega arith)

  inv_own : (a : Name) (o : Option Zone) → current a w.published ≡ o → Inv r (offer_own o w)
  inv_own a None e = i
  inv_own a (Some z) e = inv_offered r w i (record { zone = z; moment = w.now }) (own_true a z e)

  inv_copied : (s : Server) (a : Name) (o : Option Copy) → copy_at s a w.copies ≡ o → Inv r (offer_copy o w)
  inv_copied s a None e = i
  inv_copied s a (Some c) e =
      cond_both (unexpired w.now c) (offer (record { zone = c.zone; moment = c.taken }) w) w (Inv r)
      (λ u. inv_offered r w i (record { zone = c.zone; moment = c.taken }) (i.copy c (first_some (is_copy_at s a) w.copies c e).0)) (λ u. i)

  inv_taken : (s : Server) (o : Offer) (m : ℕ) → Memᴰ o w.offered → Inv r (take s o m w)
  inv_taken s o m h =
      inv_copies r w i (record { server = s; zone = o.zone; taken = lower m o.moment })
      (force_later o.zone.apex w.published w.now w.now o.moment (lower m o.moment) o.zone (omega arith) (lower_right m o.moment) (i.offer o h))

  inv_asked : (n : ℕ) (s : Server) (a q : Name) (k : ℕ) → Inv r (ask r (query_for n s a q k w.now) w)
  inv_asked n s a q k =
      let p = query_for n s a q k w.now in
      cond_both (may_draw n w && may_ask r w.now w.cache a s && within a q) (with_query p w) w (Inv r)
      (λ e. let both = and_parts (may_draw n w && may_ask r w.now w.cache a s) (within a q) e in
      let draws = and_parts (may_draw n w) (may_ask r w.now w.cache a s) both.0 in
      inv_query r w i p refl (not-true (drawn n w.sent) draws.0))
      (λ e. i)

  -- a response is by a copy that is unexpired now, and the query is not from later
  inv_responded : (q : Query) → Memᴰ q w.sent → (c : Option Copy) → copy_at q.server q.apex w.copies ≡ c → (o : Option Word) → copy_says w.now q c ≡ o → Inv r (respond q o w)
  inv_responded q h c e None f = i
  inv_responded q h None e (Some t) f = absurd (some_none t f)
  inv_responded q h (Some c) e (Some t) f = go (unexpired w.now c) refl
    where
      go : (b : Bool) → unexpired w.now c ≡ b → Inv r (respond q (Some t) w)
      go false u = absurd (some_none t (sym (cond-false (unexpired w.now c) (tells c.zone q.name q.kind) None u) ∙ f))
      go true u =
          let found = first_some (is_copy_at q.server q.apex) w.copies c e in
          let apex_is : c.zone.apex ≡ q.apex = same_so c.zone.apex q.apex (and_parts (same_label c.server q.server) (same c.zone.apex q.apex) found.1).1 in
          let good = leb-true w.now (c.taken + c.zone.expire) u in
          let past = i.sent_past q h in
          inv_responses r w i (record { id = q.id; apex = q.apex; word = t }) (record {
            query = q;
            sent = h;
            id_is = refl;
            zone = c.zone;
            moment = c.taken;
            is_in_force = subst (λ a. Memᴰ c.zone (in_force w.now c.taken a w.published)) apex_is (i.copy c found.0);
            tells_so = sym (cond-true (unexpired w.now c) (tells c.zone q.name q.kind) None u) ∙ f;
            age = omega arith;
          })

  inv_heard : (x : Response) → Memᴰ x w.responses → (o : Option Query) → matching x w.pending ≡ o → Inv r (hear x o w)
  inv_heard x h None e = i
  inv_heard x h (Some q) e =
      let found = first_some (matches x) w.pending q e in
      let both = and_parts (eqb q.id x.id) (same q.apex x.apex) found.1 in
      inv_remember r w i q x.word found.0 x (i.response x h) (eqb-true q.id x.id both.0) refl

  pub inv_step : (e : Event) → May w e → Inv r (step r e w)
  inv_step Tick m = inv_time r w i
  inv_step (Publishes z) m =
      ⊎_elim (λ e. subst (Inv r) (sym e) i) (λ p. subst (Inv r) (sym p.0) (inv_published r w i z)) (publishes z w)
  inv_step (OffersOwn a) m = inv_own a (current a w.published) refl
  inv_step (OffersCopy s a) m = inv_copied s a (copy_at s a w.copies) refl
  inv_step (Takes s o n) m = inv_taken s o n m
  inv_step (Asks n s a q k) m = inv_asked n s a q k
  inv_step (Responds q) m = inv_responded q m (copy_at q.server q.apex w.copies) refl (copy_says w.now q (copy_at q.server q.apex w.copies)) refl
  inv_step (Hears x) m = inv_heard x m (matching x w.pending) refl
  inv_step (Forgets a q k) m = inv_forgotten r w i a q k

inv_start : (r : Rules) → Inv r start
inv_start r =
    record {
      copy = λ c h. absurd (Memᴰ.not-nil h);
      offer = λ o h. absurd (Memᴰ.not-nil h);
      pending_sent = λ q h. absurd (Memᴰ.not-nil h);
      pending_open = λ q h. absurd (Memᴰ.not-nil h);
      sent_past = λ q h. absurd (Memᴰ.not-nil h);
      sent_once = λ p q h k e. absurd (Memᴰ.not-nil h);
      response = λ x h. absurd (Memᴰ.not-nil h);
      entry = λ e h. absurd (Memᴰ.not-nil h);
    }

pub inv : (r : Rules) (es : List Event) → Brought r es → Inv r (world r es)
unfolding world
inv r [] b = inv_start r
inv r (e ∷ es) b = inv_step r (world r es) (inv r es b.1) e b.0

-- ---- time and history move in three ways

pub data Moved (w v : World) : Type 0 where
  stays : v.now ≡ w.now → v.published ≡ w.published → Moved w v
  ticks : v.now ≡ w.now + 1 → v.published ≡ w.published → Moved w v
  adds : (z : Zone) → v.now ≡ w.now → v.published ≡ record { moment = w.now; zone = z } ∷ w.published → rises z (current z.apex w.published) ≡ true → Moved w v

module _ (w : World) where
  same_moved : (v : World) → v ≡ w → Moved w v
  same_moved v e = stays (ap (λ (x : World). x.now) e) (ap (λ (x : World). x.published) e)

  own_moved : (o : Option Zone) → Moved w (offer_own o w)
  own_moved None = stays refl refl
  own_moved (Some z) = stays refl refl

  copy_moved : (o : Option Copy) → Moved w (offer_copy o w)
  copy_moved None = stays refl refl
  copy_moved (Some c) = cond_both (unexpired w.now c) (offer (record { zone = c.zone; moment = c.taken }) w) w (Moved w) (λ e. stays refl refl) (λ e. stays refl refl)

  respond_moved : (q : Query) (o : Option Word) → Moved w (respond q o w)
  respond_moved q None = stays refl refl
  respond_moved q (Some t) = stays refl refl

  hear_moved : (x : Response) (o : Option Query) → Moved w (hear x o w)
  hear_moved x None = stays refl refl
  hear_moved x (Some q) = stays refl refl

  pub moved : (r : Rules) (e : Event) → Moved w (step r e w)
  moved r Tick = ticks refl refl
  moved r (Publishes z) =
      ⊎_elim (λ e. same_moved (publish z w) e)
      (λ p. adds z (ap (λ (x : World). x.now) p.0) (ap (λ (x : World). x.published) p.0) p.1) (publishes z w)
  moved r (OffersOwn a) = own_moved (current a w.published)
  moved r (OffersCopy s a) = copy_moved (copy_at s a w.copies)
  moved r (Takes s o n) = stays refl refl
  moved r (Asks n s a q k) =
      cond_both (may_draw n w && may_ask r w.now w.cache a s && within a q) (with_query (query_for n s a q k w.now) w) w (Moved w) (λ e. stays refl refl) (λ e. stays refl refl)
  moved r (Responds q) = respond_moved q (copy_says w.now q (copy_at q.server q.apex w.copies))
  moved r (Hears x) = hear_moved x (matching x w.pending)
  moved r (Forgets a q k) = stays refl refl
