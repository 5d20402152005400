-- Each call of the machine is the resolver's part of a step of the world.
use Rattle.std.proofs.Common.{◌≡◌, ℕ, suc, ◌+◌, ◌<◌, ◌≤◌, Bool, true, false, cond, not, ◌&&◌, leb, List, [], ◌∷◌, ◌++◌, length, get_or, Some, None, Ok, Err, Option, Result, sym, refl, ap, ◌∙◌, subst, ⊎_elim, true≢false, arith, length-append}
use mathlib.Core.List.Memᴰ
use mathlib.Core.List.{map-append, Memᴰ}
use lib.ListN.{length-map}
use Rattle.std.specs.Option.{option_or}
use Rattle.names.specs.declared.fault.Fault.{Fault}
use Rattle.names.specs.declared.fault.Fault.TheVariants.{Malformed}
use Rattle.names.specs.Order.{within}
use Rattle.std.proofs.lemmas.Bool.{cond-true, cond-false, cond_both, and_from, leb-false}
use Rattle.meaning.specs.Model.{Zone}
use Rattle.protocol.specs.Lists.{kept}
use Rattle.protocol.specs.Words.{Name, Server, Word}
use Rattle.protocol.specs.World.{Rules, Query, Entry, World, Event, Tick, Publishes, OffersOwn, OffersCopy, Takes, Asks, Responds, Hears, Forgets, Copy, start, with_published, with_query, current, rises, unexpired, copy_at, offer, offer_own, offer_copy, copy_says, respond, may_draw, may_ask, query_for, step, world, Brought}
use Rattle.protocol.specs.Walks.{Walk}
use Rattle.protocol.proofs.Lists.{some_is, some_none}
use Rattle.protocol.proofs.Steps.{inv}
use Rattle.machine.specs.Store.{one_a_key}
use Rattle.machine.specs.Machine.{max_walks, max_pending, Tried, Question, Pending, State, first_state, queries_of, Answer, Nowhere, shown_as, servers_on, Standing, Done, Awaits, Wants, standing, with_walks, Began, begin_by, begin, is_done, settle_on, settle_in, settle, count_try, count_tries, place_for, Sent, last_of, is_waiting, send, send_for, send_on, is_pending, draw, is_open, count_all, tick}
use Rattle.machine.specs.Refine.{SameMembers, Stands, is_outside, sends}
use Rattle.machine.proofs.Alike.{sifted, walk_is}
use Rattle.machine.proofs.Named.{ServersOf, named_at, may_ask_lem}
use Rattle.machine.proofs.Standings.{wants_so, some_servers, place_below, server_at}

-- ---- the start, and what others do

pub stands_start : Stands first_state start
unfolding one_a_key
stands_start = record { now_is = refl; pending_is = λ q. (λ m. m, λ m. m); cache_is = λ e. (λ m. m, λ m. m); keys = refl; room = omega arith; few = omega arith }

-- the fields that a state stands by
pub record Kept-part (w v : World) : Type 0 where
  pub now_same : v.now ≡ w.now
  pub pending_same : v.pending ≡ w.pending
  pub cache_same : v.cache ≡ w.cache

stands_on : (st : State) (w v : World) → Kept-part w v → Stands st w → Stands st v
stands_on st w v k s =
    record {
      now_is = s.now_is ∙ sym k.now_same;
      pending_is = subst (SameMembers (queries_of st.pending)) (sym k.pending_same) s.pending_is;
      cache_is = subst (SameMembers st.cache) (sym k.cache_same) s.cache_is;
      keys = s.keys;
      room = s.room;
      few = s.few;
    }

same_part : (w : World) → Kept-part w w
same_part w = record { now_same = refl; pending_same = refl; cache_same = refl }

own_part : (w : World) (o : Option Zone) → Kept-part w (offer_own o w)
own_part w None = same_part w
own_part w (Some z) = record { now_same = refl; pending_same = refl; cache_same = refl }

copy_part : (w : World) (o : Option Copy) → Kept-part w (offer_copy o w)
copy_part w None = same_part w
copy_part w (Some c) =
    cond_both (unexpired w.now c) (offer (record { zone = c.zone; moment = c.taken }) w) w (Kept-part w)
    (λ e. record { now_same = refl; pending_same = refl; cache_same = refl }) (λ e. same_part w)

respond_part : (w : World) (q : Query) (o : Option Word) → Kept-part w (respond q o w)
respond_part w q None = same_part w
respond_part w q (Some t) = record { now_same = refl; pending_same = refl; cache_same = refl }

outside_part : (r : Rules) (w : World) (e : Event) → is_outside e ≡ true → Kept-part w (step r e w)
outside_part r w (Publishes z) h =
    cond_both (rises z (current z.apex w.published)) (with_published (record { moment = w.now; zone = z } ∷ w.published) w) w (Kept-part w)
    (λ e. record { now_same = refl; pending_same = refl; cache_same = refl }) (λ e. same_part w)
outside_part r w (OffersOwn a) h = own_part w (current a w.published)
outside_part r w (OffersCopy s a) h = copy_part w (copy_at s a w.copies)
outside_part r w (Takes s o m) h = record { now_same = refl; pending_same = refl; cache_same = refl }
outside_part r w (Responds q) h = respond_part w q (copy_says w.now q (copy_at q.server q.apex w.copies))
outside_part r w Tick h = absurd (true≢false (sym h))
outside_part r w (Asks n s a q k) h = absurd (true≢false (sym h))
outside_part r w (Hears x) h = absurd (true≢false (sym h))
outside_part r w (Forgets a q k) h = absurd (true≢false (sym h))

pub stands_outside : (r : Rules) (st : State) (w : World) (e : Event) → is_outside e ≡ true → Stands st w → Stands st (step r e w)
stands_outside r st w e h s = stands_on st w (step r e w) (outside_part r w e h) s

-- ---- a second

pub count_length : (r : Rules) (st : State) (xs : List Pending) (us : List Question) → length (count_all r st xs us) ≡ length us
unfolding count_all
count_length r st [] us = refl
count_length r st (x ∷ xs) us = count_length r st xs (count_tries r st x us) ∙ length-map us (count_try r st x)

pub stands_tick : (r : Rules) (st : State) (w : World) → Stands st w → Stands (tick r st) (step r Tick w)
unfolding tick
stands_tick r st w s =
    let n = count_length r st (kept (λ x. not (is_open r (st.now + 1) x)) st.pending) st.walks in
    let f = s.few in
    record {
      now_is = ap (λ m. m + 1) s.now_is;
      pending_is = sifted (λ (p : Pending). p.query) (is_open r (st.now + 1)) (λ (q : Query). leb (w.now + 1) (q.asked + r.patience)) st.pending w.pending (λ p. ap (λ m. leb (m + 1) (p.query.asked + r.patience)) s.now_is) s.pending_is;
      cache_is = s.cache_is;
      keys = s.keys;
      room = s.room;
      few = omega arith;
    }

-- ---- questions that begin and end

stands_walks : (st : State) (w : World) (us : List Question) → length us ≤ max_walks → Stands st w → Stands (with_walks us st) w
stands_walks st w us l s = record { now_is = s.now_is; pending_is = s.pending_is; cache_is = s.cache_is; keys = s.keys; room = s.room; few = l }

stands_begin_by : (st : State) (w : World) (u : Question) (x : Standing) → length st.walks < max_walks → Stands st w → Stands (begin_by u st x).state w
stands_begin_by st w u (Done x n) l s = s
stands_begin_by st w u (Awaits a p) l s = stands_walks st w (st.walks ++ (u ∷ [])) (let n = length-append st.walks (u ∷ []) in omega arith) s
stands_begin_by st w u (Wants a p ss o) l s = stands_walks st w (st.walks ++ (u ∷ [])) (let n = length-append st.walks (u ∷ []) in omega arith) s

pub stands_begin : (r : Rules) (st : State) (w : World) (u : Question) → Stands st w → Stands (begin r u st).state w
unfolding begin
stands_begin r st w u s =
    cond_both (leb max_walks (length st.walks)) (record { state = st; shown = Some (shown_as u Nowhere 0) }) (begin_by u st (standing r st u)) (λ (b : Began). Stands b.state w)
    (λ e. s) (λ e. stands_begin_by st w u (standing r st u) (leb-false max_walks (length st.walks) e) s)

settle_length : (r : Rules) (st : State) (us : List Question) → length (settle_in r st us).walks ≤ length us
unfolding settle_in
settle_length r st [] = omega arith
settle_length r st (u ∷ us) = go (is_done (standing r st u)) (settle_length r st us)
  where
    go : (o : Option (Answer × ℕ)) → length (settle_in r st us).walks ≤ length us → length (settle_on u us o (settle_in r st us)).walks ≤ suc (length us)
    go None ih = omega arith
    go (Some x) ih = omega arith

pub stands_settle : (r : Rules) (st : State) (w : World) → Stands st w → Stands (settle r st).state w
stands_settle r st w s = stands_walks st w (settle_in r st st.walks).walks (let l = settle_length r st st.walks in let f = s.few in omega arith) s

-- ---- a query is sent

-- nothing is sent, or the query of a question that wants it
pub data Drawn (r : Rules) (n : ℕ) (st : State) : Sent → Type 0 where
  idle : Drawn r n st (record { state = st; query = None })
  asks : (u : Question) (a p : Name) (ss : List Server) (o : Option Tried) → Memᴰ u st.walks → standing r st u ≡ Wants a p ss o →
      Drawn r n st (send r st (record { query = query_for n (get_or ss (place_for n (length ss) o) []) a p u.kind st.now; place = place_for n (length ss) o }))

pub last_some : {A : Type 0} (test : A → Bool) (xs : List A) (x : A) → last_of test xs ≡ Some x → Memᴰ x xs × (test x ≡ true)
unfolding last_of
last_some test [] x e = absurd (some_none x e)
last_some {A} test (y ∷ ys) x e = go (last_of test ys) refl (test y) refl (last_some test ys x)
  where
    go : (o : Option A) → last_of test ys ≡ o → (b : Bool) → test y ≡ b → (last_of test ys ≡ Some x → Memᴰ x ys × (test x ≡ true)) → Memᴰ x (y ∷ ys) × (test x ≡ true)
    go (Some z) h b f ih = let i = ih (h ∙ sym (ap (λ o. option_or o (cond (test y) (Some y) None)) h) ∙ e) in (Memᴰ.tail i.0, i.1)
    go None h true f ih =
        let i : y ≡ x = some_is y x (sym (cond-true (test y) (Some y) None f) ∙ sym (ap (λ o. option_or o (cond (test y) (Some y) None)) h) ∙ e) in
        (Memᴰ.head (sym i), ap test (sym i) ∙ f)
    go None h false f ih = absurd (some_none x (sym (cond-false (test y) (Some y) None f) ∙ sym (ap (λ o. option_or o (cond (test y) (Some y) None)) h) ∙ e))

drawn_for : (r : Rules) (n : ℕ) (st : State) (u : Question) → Memᴰ u st.walks → (x : Standing) → standing r st u ≡ x → Drawn r n st (send_for r n st u x)
drawn_for r n st u m (Wants a p ss o) e = asks u a p ss o m e
drawn_for r n st u m (Done x k) e = idle
drawn_for r n st u m (Awaits a p) e = idle

drawn_on : (r : Rules) (n : ℕ) (st : State) (o : Option Question) → last_of (λ u. is_waiting (standing r st u)) st.walks ≡ o → Drawn r n st (send_on r n st o)
drawn_on r n st None e = idle
drawn_on r n st (Some u) e = drawn_for r n st u (last_some (λ u. is_waiting (standing r st u)) st.walks u e).0 (standing r st u) refl

pub ok_is : {A B : Type 0} (x y : A) → ◌≡◌ {A = Result A B} (Ok x) (Ok y) → x ≡ y
ok_is x y h = cc

pub err_ok : {A B : Type 0} (x : B) (y : A) → ◌≡◌ {A = Result A B} (Err x) (Ok y) → ⊥
err_ok x y h = let w : ◌≡◌ {A = ℕ} 0 1 = cc in omega arith

abbrev none_sent : State → Result Sent Fault
none_sent st = Ok (record { state = st; query = None })

abbrev one_sent : Rules → ℕ → State → Result Sent Fault
one_sent r n st = Ok (send_on r n st (last_of (λ u. is_waiting (standing r st u)) st.walks))

abbrev with_room : Rules → ℕ → State → Result Sent Fault
with_room r n st = cond (leb max_pending (length st.pending)) (none_sent st) (one_sent r n st)

drawn_room : (r : Rules) (n : ℕ) (st : State) (s : Sent) (c : Bool) → leb max_pending (length st.pending) ≡ c → with_room r n st ≡ Ok s → Drawn r n st s
drawn_room r n st s true f h = subst (Drawn r n st) (ok_is {B = Fault} (record { state = st; query = None }) s (sym (cond-true (leb max_pending (length st.pending)) (none_sent st) (one_sent r n st) f) ∙ h)) idle
drawn_room r n st s false f h =
    subst (Drawn r n st) (ok_is {B = Fault} (send_on r n st (last_of (λ u. is_waiting (standing r st u)) st.walks)) s (sym (cond-false (leb max_pending (length st.pending)) (none_sent st) (one_sent r n st) f) ∙ h))
    (drawn_on r n st (last_of (λ u. is_waiting (standing r st u)) st.walks) refl)

pub drawn_so : (r : Rules) (n : ℕ) (st : State) (s : Sent) → draw r n st ≡ Ok s → Drawn r n st s
unfolding draw
drawn_so r n st s h = go (is_pending n st.pending) refl
  where
    go : (b : Bool) → is_pending n st.pending ≡ b → Drawn r n st s
    go true e = absurd (err_ok Malformed s (sym (cond-true (is_pending n st.pending) (Err Malformed) (with_room r n st) e) ∙ h))
    go false e = drawn_room r n st s (leb max_pending (length st.pending)) refl (sym (cond-false (is_pending n st.pending) (Err Malformed) (with_room r n st) e) ∙ h)

-- one more pending, at the end of one list and at the front of the other
more_pending : (ps : List Pending) (x : Pending) (qs : List Query) (q : Query) → x.query ≡ q → SameMembers (queries_of ps) qs → SameMembers (queries_of (ps ++ (x ∷ []))) (q ∷ qs)
more_pending ps x qs q e h y = (there, back)
  where
    split : queries_of (ps ++ (x ∷ [])) ≡ queries_of ps ++ (x.query ∷ [])
    split = map-append (λ (p : Pending). p.query) ps (x ∷ [])

    there : Memᴰ y (queries_of (ps ++ (x ∷ []))) → Memᴰ y (q ∷ qs)
    there m = ⊎_elim (λ n. Memᴰ.tail ((h y).0 n)) (λ n. Memᴰ.head (Memᴰ.eq_of_singleton n ∙ e)) (Memᴰ.append_cases (queries_of ps) (subst (Memᴰ y) split m))

    back : Memᴰ y (q ∷ qs) → Memᴰ y (queries_of (ps ++ (x ∷ [])))
    back m = subst (Memᴰ y) (sym split) (⊎_elim (λ a. Memᴰ.append_right (queries_of ps) (Memᴰ.head (a ∙ sym e))) (λ n. Memᴰ.append_left (x.query ∷ []) ((h y).1 n)) (Memᴰ.cases_cons m))

module _ (r : Rules) (n : ℕ) (st : State) (es : List Event) (b : Brought r es) (new : may_draw n (world r es) ≡ true) (s : Stands st (world r es)) where
  w : World
  w = world r es

  -- the query that a question wants may be asked in the world
  pub guard : (u : Question) (a p : Name) (ss : List Server) (o : Option Tried) → standing r st u ≡ Wants a p ss o → (may_draw n (world r es) && may_ask r (world r es).now (world r es).cache a (get_or ss (place_for n (length ss) o) []) && within a p) ≡ true
  guard u a p ss o e =
      let x = wants_so r st u a p ss o e in
      let y = walk_is r st (world r es) s u in
      let l = some_servers ss o x.try_left in
      let at = named_at r (world r es) (inv r es b) u.kind u.name a p (sym (ap (λ (z : Walk Entry). z.end) y) ∙ x.lacks) in
      let of_these : ServersOf r (world r es) a ss = subst (ServersOf r (world r es) a) (sym (x.servers_are ∙ ap (λ (z : Walk Entry). servers_on r z.words) y)) at.0 in
      and_from (may_draw n (world r es) && may_ask r (world r es).now (world r es).cache a (get_or ss (place_for n (length ss) o) [])) (within a p)
      (and_from (may_draw n (world r es)) (may_ask r (world r es).now (world r es).cache a (get_or ss (place_for n (length ss) o) [])) new
      (may_ask_lem r (world r es) (inv r es b) u.kind a ss (get_or ss (place_for n (length ss) o) []) of_these (server_at ss (place_for n (length ss) o) (place_below n (length ss) o l)))) at.1

  pub stands_drawn : (t : Sent) → Drawn r n st t → Brought r (sends t.query ++ es) × Stands t.state (world r (sends t.query ++ es))
  unfolding world
  stands_drawn t idle = (b, s)
  stands_drawn t (asks u a p ss o m e) =
      let at = place_for n (length ss) o in
      let sv = get_or ss (place_for n (length ss) o) [] in
      let asked : step r (Asks n sv a p u.kind) (world r es) ≡ with_query (query_for n sv a p u.kind (world r es).now) (world r es) =
      cond-true (may_draw n (world r es) && may_ask r (world r es).now (world r es).cache a sv && within a p) (with_query (query_for n sv a p u.kind (world r es).now) (world r es)) (world r es) (guard u a p ss o e) in
      let x : Pending = record { query = query_for n sv a p u.kind st.now; place = at } in
      let k = length-map st.walks (count_try r st x) in
      let f = s.few in (
        (tt, b),
        subst (Stands (send r st x).state) (sym asked) (record {
          now_is = s.now_is;
          pending_is = more_pending st.pending x (world r es).pending (query_for n sv a p u.kind (world r es).now) (ap (query_for n sv a p u.kind) s.now_is) s.pending_is;
          cache_is = s.cache_is;
          keys = s.keys;
          room = s.room;
          few = omega arith;
        }),
      )
