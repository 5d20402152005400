-- What a call makes of a question under way: no call loses it, and what each leaves of it.
use Rattle.std.proofs.Common.{◌≡◌, ℕ, suc, ◌+◌, Bool, true, false, cond, not, ◌||◌, eqb, leb, ◌⊎◌, List, [], ◌∷◌, ◌++◌, map, length, get_or, Some, None, Ok, Err, Option, is_some, is_none, sym, refl, ap, ◌∙◌, subst, inl, inr, ⊎_elim, true≢false, append_assoc, append-nil, arith}
use mathlib.Core.List.Memᴰ
use mathlib.Core.List.{map-append, Memᴰ}
use lib.ListN.{length-map}
use Rattle.std.specs.Option.{option_or}
use Rattle.names.specs.declared.fault.Fault.{Fault}
use Rattle.names.specs.declared.fault.Fault.TheVariants.{Malformed}
use Rattle.std.proofs.lemmas.Bool.{cond-true, cond-false, cond_both, and_parts, and_from, or_parts, or_from, not-true, not_from_false}
use Rattle.protocol.specs.Lists.{first, kept, any}
use Rattle.protocol.specs.Words.{Name, Server}
use Rattle.protocol.specs.World.{Rules, Query, Response, Entry, Event, Tick, query_for, may_draw, world, May}
use Rattle.protocol.proofs.Lists.{some_is, some_none, any_none}
use Rattle.machine.specs.Machine as machine
use Rattle.machine.specs.Machine.{max_walks, max_pending, Tried, Question, Pending, State, Answer, Nowhere, Shown, Standing, Done, Awaits, Wants, standing, shown_as, with_walks, question, Began, begin_by, begin, is_done, Settled, settle_on, settle_in, settle, tried_of, count_try, count_tries, place_for, last_of, is_waiting, Sent, send, send_for, send_on, is_pending, draw, Heard, keep, is_open, count_all, tick}
use Rattle.machine.specs.Refine.{is_outside, sends, hearing, Joint, starts, begins, settles, draws, hears, ticks, others}
use Rattle.machine.specs.Bounds.{Call, to_begin, to_settle, to_draw, to_hear, to_tick, by_others, Comes, at_start, by_call, Spot, all_of, shows_it, still_before, Stays, is_next, Life, begun, goes_on, SentFor, EndsNow, wants}
use Rattle.machine.proofs.Refining.{ok_is, err_ok}
use Rattle.machine.proofs.Heard.{heard_so}
use Rattle.machine.proofs.Main.{done_is}
use Rattle.machine.proofs.Standings.{wants_so}

-- ---- calls and runs

pub calls : (r : Rules) (st : State) (es : List Event) (st' : State) (es' : List Event) → Joint r st es → Call r st es st' es' → Joint r st' es'
calls r st es st' es' j (to_begin v) = begins j v
calls r st es st' es' j to_settle = settles j
calls r st es st' es' j (to_draw n m s e) = draws j n m s e
calls r st es st' es' j (to_hear y m p f h e) = hears j y m p f h e
calls r st es st' es' j to_tick = ticks j
calls r st es st' es' j (by_others e o m) = others j e o m

pub only_calls : (r : Rules) (st : State) (es : List Event) → Joint r st es → Comes r st es
only_calls r st es starts = at_start
only_calls r st es (begins j v) = by_call j (to_begin v)
only_calls r st es (settles j) = by_call j to_settle
only_calls r st es (draws j n m s e) = by_call j (to_draw n m s e)
only_calls r st es (hears j y m p f h e) = by_call j (to_hear y m p f h e)
only_calls r st es (ticks j) = by_call j to_tick
only_calls r st es (others j e o m) = by_call j (by_others e o m)

-- ---- one list cut in two ways at the same place

cons_head : {A : Type 0} (x y : A) (xs ys : List A) → x ∷ xs ≡ y ∷ ys → x ≡ y
cons_head x y xs ys e = cc

cons_tail : {A : Type 0} (x y : A) (xs ys : List A) → x ∷ xs ≡ y ∷ ys → xs ≡ ys
cons_tail x y xs ys e = cc

pub one_cut : {A : Type 0} (xs ys : List A) (a b : A) (vs ws : List A) → xs ++ (a ∷ vs) ≡ ys ++ (b ∷ ws) → length xs ≡ length ys → (xs ≡ ys) × (a ≡ b) × (vs ≡ ws)
one_cut [] [] a b vs ws e l = (refl, cons_head a b vs ws e, cons_tail a b vs ws e)
one_cut [] (y ∷ ys) a b vs ws e l = absurd (omega arith)
one_cut (x ∷ xs) [] a b vs ws e l = absurd (omega arith)
one_cut (x ∷ xs) (y ∷ ys) a b vs ws e l =
    let h = cons_head x y (xs ++ (a ∷ vs)) (ys ++ (b ∷ ws)) e in
    let k = one_cut xs ys a b vs ws (cons_tail x y (xs ++ (a ∷ vs)) (ys ++ (b ∷ ws)) e) (omega arith) in
    ((λ i. h i ∷ k.0 i), k.1, k.2)

-- two spots of as many before in one list
pub one_spot : (x y : Spot) → all_of x ≡ all_of y → length x.before ≡ length y.before → x ≡ y
one_spot x y e l = let k = one_cut x.before y.before x.asked y.asked x.behind y.behind e l in λ i. record { before = k.0 i; asked = k.1 i; behind = k.2 i }

pub one_place : (r : Rules) (st : State) (es : List Event) (st' : State) (es' : List Event) (c : Call r st es st' es') (x y z : Spot) → Stays r st es st' es' c x y → Stays r st es st' es' c x z → y ≡ z
one_place r st es st' es' c x y z s k = one_spot y z (sym s.walks_are ∙ k.walks_are) (s.place_is ∙ sym k.place_is)

-- ---- another begins

abbrev pub BeganFor : State → Began → Type 0
BeganFor st b = (more : List Question) × (b.state ≡ with_walks (st.walks ++ more) st)

began_nothing : (st : State) → st ≡ with_walks (st.walks ++ []) st
began_nothing st = ap (λ us. with_walks us st) (sym (append-nil st.walks))

began_by : (v : Question) (st : State) (x : Standing) → BeganFor st (begin_by v st x)
began_by v st (Done a n) = ([], began_nothing st)
began_by v st (Awaits a p) = (v ∷ [], refl)
began_by v st (Wants a p ss o) = (v ∷ [], refl)

pub began_so : (r : Rules) (v : Question) (st : State) → BeganFor st (begin r v st)
unfolding begin
began_so r v st =
    cond_both (leb max_walks (length st.walks)) (record { state = st; shown = Some (shown_as v Nowhere 0) }) (begin_by v st (standing r st v)) (BeganFor st)
    (λ e. ([], began_nothing st)) (λ e. began_by v st (standing r st v))

-- ---- the first that is done is settled

module _ (r : Rules) (st : State) where
  -- none of those in front is done
  pub settle_behind : (us rest : List Question) → (settle_in r st us).shown ≡ None → settle_in r st (us ++ rest) ≡ record { walks = us ++ (settle_in r st rest).walks; shown = (settle_in r st rest).shown }
  unfolding settle_in
  settle_behind [] rest h = refl
  settle_behind (v ∷ us) rest h = go (is_done (standing r st v)) refl (settle_behind us rest)
    where
      shown_by_lem : (o : Option (Answer × ℕ)) → is_done (standing r st v) ≡ o → (settle_on v us o (settle_in r st us)).shown ≡ None
      shown_by_lem o e = sym (ap (λ p. (settle_on v us p (settle_in r st us)).shown) e) ∙ h

      go : (o : Option (Answer × ℕ)) → is_done (standing r st v) ≡ o → ((settle_in r st us).shown ≡ None → settle_in r st (us ++ rest) ≡ record { walks = us ++ (settle_in r st rest).walks; shown = (settle_in r st rest).shown }) →
          settle_in r st ((v ∷ us) ++ rest) ≡ record { walks = (v ∷ us) ++ (settle_in r st rest).walks; shown = (settle_in r st rest).shown }
      go (Some z) e ih = absurd (some_none (shown_as v z.0 z.1) (sym (shown_by_lem (Some z) e)))
      go None e ih =
          ap (λ o. settle_on v (us ++ rest) o (settle_in r st (us ++ rest))) e
          ∙ ap (λ (s : Settled). record { walks = v ∷ s.walks; shown = s.shown }) (ih (shown_by_lem None e))

  -- one of those in front is
  pub settle_before : (us rest : List Question) (x : Shown) → (settle_in r st us).shown ≡ Some x → settle_in r st (us ++ rest) ≡ record { walks = (settle_in r st us).walks ++ rest; shown = Some x }
  unfolding settle_in
  settle_before [] rest x h = absurd (some_none x h)
  settle_before (v ∷ us) rest x h = go (is_done (standing r st v)) refl (settle_before us rest x)
    where
      go : (o : Option (Answer × ℕ)) → is_done (standing r st v) ≡ o → ((settle_in r st us).shown ≡ Some x → settle_in r st (us ++ rest) ≡ record { walks = (settle_in r st us).walks ++ rest; shown = Some x }) →
          settle_in r st ((v ∷ us) ++ rest) ≡ record { walks = (settle_in r st (v ∷ us)).walks ++ rest; shown = Some x }
      go (Some z) e ih =
          let h2 : ◌≡◌ {A = Option Shown} (Some (shown_as v z.0 z.1)) (Some x) = sym (ap (λ p. (settle_on v us p (settle_in r st us)).shown) e) ∙ h in
          ap (λ o. settle_on v (us ++ rest) o (settle_in r st (us ++ rest))) e
          ∙ (λ i. record { walks = (settle_on v us (sym e i) (settle_in r st us)).walks ++ rest; shown = h2 i })
      go None e ih =
          ap (λ o. settle_on v (us ++ rest) o (settle_in r st (us ++ rest))) e
          ∙ ap (λ (s : Settled). record { walks = v ∷ s.walks; shown = s.shown }) (ih (sym (ap (λ p. (settle_on v us p (settle_in r st us)).shown) e) ∙ h))
          ∙ (λ i. record { walks = (settle_on v us (sym e i) (settle_in r st us)).walks ++ rest; shown = Some x })

  -- the head, if it isn't done or if it is
  pub settle_head : (u : Question) (vs : List Question) → is_done (standing r st u) ≡ None → settle_in r st (u ∷ vs) ≡ record { walks = u ∷ (settle_in r st vs).walks; shown = (settle_in r st vs).shown }
  unfolding settle_in
  settle_head u vs e = ap (λ o. settle_on u vs o (settle_in r st vs)) e

  pub settle_it : (u : Question) (vs : List Question) (z : Answer × ℕ) → is_done (standing r st u) ≡ Some z → settle_in r st (u ∷ vs) ≡ record { walks = vs; shown = Some (shown_as u z.0 z.1) }
  unfolding settle_in
  settle_it u vs z e = ap (λ o. settle_on u vs o (settle_in r st vs)) e

  none_settled : (us : List Question) → (settle_in r st us).shown ≡ None → (settle_in r st us).walks ≡ us
  unfolding settle_in
  none_settled us h =
      let e = settle_behind us [] h in
      ap (λ zs. (settle_in r st zs).walks) (sym (append-nil us)) ∙ ap (λ (s : Settled). s.walks) e ∙ append-nil us

-- ---- a query is sent

module _ {A : Type 0} (test : A → Bool) where
  last_none : (xs : List A) → any test xs ≡ false → last_of test xs ≡ None
  unfolding last_of any
  last_none [] h = refl
  last_none (x ∷ xs) h =
      let g = or_parts (test x) (any test xs) h in
      ap (λ o. option_or o (cond (test x) (Some x) None)) (last_none xs g.1) ∙ cond-false (test x) (Some x) None g.0

  pub last_here : (xs : List A) (a : A) (ys : List A) → test a ≡ true → any test ys ≡ false → last_of test (xs ++ (a ∷ ys)) ≡ Some a
  unfolding last_of
  last_here [] a ys t h = ap (λ o. option_or o (cond (test a) (Some a) None)) (last_none ys h) ∙ cond-true (test a) (Some a) None t
  last_here (x ∷ xs) a ys t h = ap (λ o. option_or o (cond (test x) (Some x) None)) (last_here xs a ys t h)

  pub none_last : (xs : List A) → last_of test xs ≡ None → any test xs ≡ false
  unfolding last_of any
  none_last [] h = refl
  none_last (x ∷ xs) h = go (last_of test xs) refl (test x) refl (none_last xs)
    where
      go : (o : Option A) → last_of test xs ≡ o → (b : Bool) → test x ≡ b → (last_of test xs ≡ None → any test xs ≡ false) → (test x || any test xs) ≡ false
      go (Some y) e b f ih = absurd (some_none y (sym h ∙ ap (λ o. option_or o (cond (test x) (Some x) None)) e))
      go None e true f ih = absurd (some_none x (sym h ∙ ap (λ o. option_or o (cond (test x) (Some x) None)) e ∙ cond-true (test x) (Some x) None f))
      go None e false f ih = or_from (test x) (any test xs) f (ih e)

  abbrev LastAt : List A → A → Type 0
  LastAt xs a = (front : List A) × (back : List A) × (xs ≡ front ++ (a ∷ back)) × (test a ≡ true) × (any test back ≡ false)

  pub last_at : (xs : List A) (a : A) → last_of test xs ≡ Some a → LastAt xs a
  unfolding last_of
  last_at [] a h = absurd (some_none a h)
  last_at (x ∷ xs) a h = go (last_of test xs) refl (test x) refl (last_at xs a)
    where
      go : (o : Option A) → last_of test xs ≡ o → (b : Bool) → test x ≡ b → (last_of test xs ≡ Some a → LastAt xs a) → LastAt (x ∷ xs) a
      go (Some y) e b f ih =
          let k = ih (e ∙ sym (ap (λ o. option_or o (cond (test x) (Some x) None)) e) ∙ h) in
          (x ∷ k.0, k.1, ap (λ zs. x ∷ zs) k.2, k.3, k.4)
      go None e true f ih =
          let i : x ≡ a = some_is x a (sym (ap (λ o. option_or o (cond (test x) (Some x) None)) e ∙ cond-true (test x) (Some x) None f) ∙ h) in
          ([], xs, ap (λ z. z ∷ xs) i, ap test (sym i) ∙ f, none_last xs e)
      go None e false f ih = absurd (some_none a (sym (ap (λ o. option_or o (cond (test x) (Some x) None)) e ∙ cond-false (test x) (Some x) None f) ∙ h))

-- the last that passes stands at one place
one_last : {A : Type 0} (test : A → Bool) (xs ys : List A) (a b : A) (vs ws : List A) → xs ++ (a ∷ vs) ≡ ys ++ (b ∷ ws) → test a ≡ true → test b ≡ true → any test vs ≡ false → any test ws ≡ false → length xs ≡ length ys
one_last test [] [] a b vs ws e f g h k = refl
one_last {A} test [] (y ∷ ys) a b vs ws e f g h k = absurd (any_none test vs h b (subst (λ (zs : List A). Memᴰ b zs) (sym (cons_tail a y vs (ys ++ (b ∷ ws)) e)) (Memᴰ.append_right ys (Memᴰ.head refl))) g)
one_last {A} test (x ∷ xs) [] a b vs ws e f g h k = absurd (any_none test ws k a (subst (λ (zs : List A). Memᴰ a zs) (cons_tail x b (xs ++ (a ∷ vs)) ws e) (Memᴰ.append_right xs (Memᴰ.head refl))) f)
one_last test (x ∷ xs) (y ∷ ys) a b vs ws e f g h k = ap suc (one_last test xs ys a b vs ws (cons_tail x y (xs ++ (a ∷ vs)) (ys ++ (b ∷ ws)) e) f g h k)

-- the query of the last question that wants one
pub record Sending (r : Rules) (n : ℕ) (st : State) (s : Sent) : Type 0 where
  pub spot : Spot
  pub under_way : st.walks ≡ all_of spot
  pub none_behind : any (wants r st) spot.behind ≡ false
  pub apex : Name
  pub name : Name
  pub servers : List Server
  pub try : Option Tried
  pub wanted : standing r st spot.asked ≡ Wants apex name servers try
  pub pending : Pending
  pub query_is : pending.query ≡ query_for n (get_or servers (place_for n (length servers) try) []) apex name spot.asked.kind st.now
  pub sent_is : s ≡ send r st pending

abbrev pub NoneSent : State → Sent → Type 0
NoneSent st s = s ≡ record { state = st; query = None }

module _ (r : Rules) (n : ℕ) (st : State) (s : Sent) where
  pub sending_for : (u : Question) (front back : List Question) → st.walks ≡ front ++ (u ∷ back) → wants r st u ≡ true → any (wants r st) back ≡ false → (x : Standing) → standing r st u ≡ x → send_for r n st u x ≡ s → Sending r n st s
  sending_for u front back at w none (Wants a p ss o) e h =
      record {
        spot = record { before = front; asked = u; behind = back };
        under_way = at;
        none_behind = none;
        apex = a;
        name = p;
        servers = ss;
        try = o;
        wanted = e;
        pending = record { query = query_for n (get_or ss (place_for n (length ss) o) []) a p u.kind st.now; place = place_for n (length ss) o };
        query_is = refl;
        sent_is = sym h;
      }
  sending_for u front back at w none (Done x m) e h = absurd (true≢false (sym w ∙ ap is_waiting e))
  sending_for u front back at w none (Awaits a p) e h = absurd (true≢false (sym w ∙ ap is_waiting e))

  sending_on : (o : Option Question) → last_of (wants r st) st.walks ≡ o → send_on r n st o ≡ s → NoneSent st s ⊎ Sending r n st s
  sending_on None e h = inl (sym h)
  sending_on (Some u) e h = let k = last_at (wants r st) st.walks u e in inr (sending_for u k.0 k.1 k.2 k.3 k.4 (standing r st u) refl h)

  pub drew_so : draw r n st ≡ Ok s → NoneSent st s ⊎ Sending r n st s
  unfolding draw
  drew_so h = go (is_pending n st.pending) refl (leb max_pending (length st.pending)) refl
    where
      go : (b : Bool) → is_pending n st.pending ≡ b → (c : Bool) → leb max_pending (length st.pending) ≡ c → NoneSent st s ⊎ Sending r n st s
      go true e c f = absurd (err_ok Malformed s (sym (cond-true (is_pending n st.pending) (Err Malformed) _ e) ∙ h))
      go false e true f = inl (sym (ok_is {B = Fault} (record { state = st; query = None }) s (sym (cond-false (is_pending n st.pending) (Err Malformed) _ e ∙ cond-true (leb max_pending (length st.pending)) (Ok (record { state = st; query = None })) (Ok (send_on r n st (last_of (wants r st) st.walks))) f) ∙ h)))
      go false e false f =
          sending_on (last_of (wants r st) st.walks) refl
          (ok_is {B = Fault} (send_on r n st (last_of (wants r st) st.walks)) s (sym (cond-false (is_pending n st.pending) (Err Malformed) _ e ∙ cond-false (leb max_pending (length st.pending)) (Ok (record { state = st; query = None })) (Ok (send_on r n st (last_of (wants r st) st.walks))) f) ∙ h))

-- ---- a second passes

-- a question, when each of these has been counted
unfoldable pub counted_by : Rules → State → List Pending → Question → Question
counted_by r st [] u = u
counted_by r st (x ∷ xs) u = counted_by r st xs (count_try r st x u)

map_twice : {A : Type 0} (f g : A → A) (xs : List A) → map g (map f xs) ≡ map (λ x. g (f x)) xs
map_twice f g [] = refl
map_twice f g (x ∷ xs) = ap (λ ys. g (f x) ∷ ys) (map_twice f g xs)

map_same : {A : Type 0} (xs : List A) → xs ≡ map (λ x. x) xs
map_same [] = refl
map_same (x ∷ xs) = ap (λ ys. x ∷ ys) (map_same xs)

pub count_all_is : (r : Rules) (st : State) (xs : List Pending) (us : List Question) → count_all r st xs us ≡ map (counted_by r st xs) us
unfolding count_all counted_by
count_all_is r st [] us = map_same us
count_all_is r st (x ∷ xs) us = count_all_is r st xs (count_tries r st x us) ∙ map_twice (count_try r st x) (counted_by r st xs) us

abbrev pub closing : Rules → State → List Pending
closing r st = kept (λ x. not (is_open r (st.now + 1) x)) st.pending

pub ticked : (r : Rules) (st : State) → (tick r st).walks ≡ map (counted_by r st (closing r st)) st.walks
unfolding tick
ticked r st = count_all_is r st (closing r st) st.walks

-- ---- a response is heard

pub heard_keeps : (r : Rules) (y : Response) (st : State) (p : Pending) (h : Heard) → first (λ (z : Pending). eqb z.query.id y.id) st.pending ≡ Some p → machine.hear r y st ≡ Ok h → (es : List Entry) × (h.state ≡ keep r st p es)
heard_keeps r y st p h found e = ⊎_elim (λ k. (k.0, k.2)) (λ k. (k.1, k.3)) (heard_so r y st p h found e).stored

-- ---- the spot after a call

module _ (r : Rules) (st : State) (x : Spot) (at : st.walks ≡ all_of x) where
  mapped : (f : Question → Question) (ws : List Question) → ws ≡ map f st.walks → ws ≡ map f x.before ++ (f x.asked ∷ map f x.behind)
  mapped f ws e = e ∙ ap (map f) at ∙ map-append f x.before (x.asked ∷ x.behind)

  abbrev spot_by : (Question → Question) → Spot
  spot_by f = record { before = map f x.before; asked = f x.asked; behind = map f x.behind }

  pub asked_by : (f : Question → Question) (ws : List Question) (y : Spot) → ws ≡ map f st.walks → ws ≡ all_of y → length y.before ≡ length x.before → y.asked ≡ f x.asked
  asked_by f ws y e g l =
      let n = length-map x.before f in
      sym (one_cut (map f x.before) y.before (f x.asked) y.asked (map f x.behind) y.behind (sym (mapped f ws e) ∙ g) (omega arith)).1

  stays_by : (es : List Event) (st' : State) (es' : List Event) (c : Call r st es st' es') (f : Question → Question) → st'.walks ≡ map f st.walks → shows_it c x ≡ false → length x.before ≡ still_before c x.before → Stays r st es st' es' c x (spot_by f)
  stays_by es st' es' c f e n l = record { not_shown = n; walks_are = mapped f st'.walks e; place_is = length-map x.before f ∙ l }

  begun_walks : (v : Question) (b : BeganFor st (begin r v st)) → (begin r v st).state.walks ≡ x.before ++ (x.asked ∷ (x.behind ++ b.0))
  begun_walks v b = ap (λ (s : State). s.walks) b.1 ∙ ap (λ us. us ++ b.0) at ∙ append_assoc x.before (x.asked ∷ x.behind) b.0

  -- what settle leaves, by who is done
  data SettledSo : Type 0 where
    before_it : (z : Shown) → (settle_in r st x.before).shown ≡ Some z → (settle r st).state.walks ≡ (settle_in r st x.before).walks ++ (x.asked ∷ x.behind) → SettledSo
    behind_it : (settle_in r st x.before).shown ≡ None → is_done (standing r st x.asked) ≡ None → (settle r st).state.walks ≡ x.before ++ (x.asked ∷ (settle_in r st x.behind).walks) → SettledSo
    itself : (z : Answer × ℕ) → (settle_in r st x.before).shown ≡ None → is_done (standing r st x.asked) ≡ Some z → (settle r st).shown ≡ Some (shown_as x.asked z.0 z.1) → SettledSo

  settled_so : SettledSo
  settled_so = go (settle_in r st x.before).shown refl (is_done (standing r st x.asked)) refl
    where
      here : settle_in r st st.walks ≡ settle_in r st (all_of x)
      here = ap (settle_in r st) at

      go : (o : Option Shown) → (settle_in r st x.before).shown ≡ o → (d : Option (Answer × ℕ)) → is_done (standing r st x.asked) ≡ d → SettledSo
      go (Some z) e d f = before_it z e (ap (λ (s : Settled). s.walks) (here ∙ settle_before r st x.before (x.asked ∷ x.behind) z e))
      go None e None f =
          behind_it e f
          (ap (λ (s : Settled). s.walks) (here ∙ settle_behind r st x.before (x.asked ∷ x.behind) e) ∙ ap (λ (s : Settled). x.before ++ s.walks) (settle_head r st x.asked x.behind f))
      go None e (Some z) f =
          itself z e f
          (ap (λ (s : Settled). s.shown) (here ∙ settle_behind r st x.before (x.asked ∷ x.behind) e) ∙ ap (λ (s : Settled). s.shown) (settle_it r st x.asked x.behind z f))

  not_first : (o : Option Shown) (z : Shown) → o ≡ Some z → is_none o ≡ false
  not_first o z e = ap is_none e

  pub onward : (es : List Event) (st' : State) (es' : List Event) (c : Call r st es st' es') → shows_it c x ≡ false → (y : Spot) × Stays r st es st' es' c x y
  onward es st' es' (to_begin v) n =
      let b = began_so r v st in
      (record { before = x.before; asked = x.asked; behind = x.behind ++ b.0 }, record { not_shown = refl; walks_are = begun_walks v b; place_is = refl })
  onward es st' es' to_settle n = go settled_so
    where
      go : SettledSo → (y : Spot) × Stays r st es (settle r st).state es to_settle x y
      go (before_it z e w) = (record { before = (settle_in r st x.before).walks; asked = x.asked; behind = x.behind }, record { not_shown = n; walks_are = w; place_is = refl })
      go (behind_it e d w) =
          (record { before = x.before; asked = x.asked; behind = (settle_in r st x.behind).walks }, record { not_shown = n; walks_are = w; place_is = ap length (sym (none_settled r st x.before e)) })
      go (itself z e d w) = absurd (true≢false (sym (and_from (is_none (settle_in r st x.before).shown) (is_some (is_done (standing r st x.asked))) (ap is_none e) (ap is_some d)) ∙ n))
  onward es st' es' (to_draw m may s e) n = go (drew_so r m st s e)
    where
      go : NoneSent st s ⊎ Sending r m st s → (y : Spot) × Stays r st es s.state (sends s.query ++ es) (to_draw m may s e) x y
      go (inl h) = (x, record { not_shown = refl; walks_are = ap (λ (z : Sent). z.state.walks) h ∙ at; place_is = refl })
      go (inr h) = (spot_by (count_try r st h.pending), stays_by es s.state (sends s.query ++ es) (to_draw m may s e) (count_try r st h.pending) (ap (λ (z : Sent). z.state.walks) h.sent_is) refl refl)
  onward es st' es' (to_hear y m p f h e) n =
      let k = heard_keeps r y st p h f e in
      (spot_by (count_try r st p), stays_by es h.state (hearing r st y p ++ es) (to_hear y m p f h e) (count_try r st p) (ap (λ (z : State). z.walks) k.1) refl refl)
  onward es st' es' to_tick n = (spot_by (counted_by r st (closing r st)), stays_by es (tick r st) (Tick ∷ es) to_tick (counted_by r st (closing r st)) (ticked r st) refl refl)
  onward es st' es' (by_others e o m) n = (x, record { not_shown = refl; walks_are = at; place_is = refl })

  pub ends : (es : List Event) (st' : State) (es' : List Event) (c : Call r st es st' es') → shows_it c x ≡ true → EndsNow r st x.asked
  ends es st' es' (to_begin v) n = absurd (true≢false (sym n))
  ends es st' es' to_settle n = go settled_so
    where
      b : (is_none (settle_in r st x.before).shown ≡ true) × (is_some (is_done (standing r st x.asked)) ≡ true)
      b = and_parts (is_none (settle_in r st x.before).shown) (is_some (is_done (standing r st x.asked))) n

      go : SettledSo → EndsNow r st x.asked
      go (before_it z e w) = absurd (true≢false (sym b.0 ∙ ap is_none e))
      go (behind_it e d w) = absurd (true≢false (sym b.1 ∙ ap is_some d))
      go (itself z e d w) = record { answer = z.0; left = z.1; done = done_is (standing r st x.asked) z.0 z.1 d; shown = w }
  ends es st' es' (to_draw m may s e) n = absurd (true≢false (sym n))
  ends es st' es' (to_hear y m p f h e) n = absurd (true≢false (sym n))
  ends es st' es' to_tick n = absurd (true≢false (sym n))
  ends es st' es' (by_others e o m) n = absurd (true≢false (sym n))

  -- what each call leaves of the question
  module _ (es : List Event) (y : Spot) where
    pub asked_begin : (v : Question) → Stays r st es (begin r v st).state es (to_begin v) x y → y.asked ≡ x.asked
    asked_begin v s =
        let b = began_so r v st in
        sym (one_cut x.before y.before x.asked y.asked (x.behind ++ b.0) y.behind (sym (begun_walks v b) ∙ s.walks_are) (sym s.place_is)).1

    pub asked_settle : Stays r st es (settle r st).state es to_settle x y → y.asked ≡ x.asked
    asked_settle s = go settled_so
      where
        go : SettledSo → y.asked ≡ x.asked
        go (before_it z e w) = sym (one_cut (settle_in r st x.before).walks y.before x.asked y.asked x.behind y.behind (sym w ∙ s.walks_are) (sym s.place_is)).1
        go (behind_it e d w) = sym (one_cut x.before y.before x.asked y.asked (settle_in r st x.behind).walks y.behind (sym w ∙ s.walks_are) (ap length (sym (none_settled r st x.before e)) ∙ sym s.place_is)).1
        go (itself z e d w) = absurd (true≢false (sym (and_from (is_none (settle_in r st x.before).shown) (is_some (is_done (standing r st x.asked))) (ap is_none e) (ap is_some d)) ∙ s.not_shown))

    pub asked_idle : (m : ℕ) (may : may_draw m (world r es) ≡ true) (s : Sent) (e : draw r m st ≡ Ok s) → NoneSent st s → Stays r st es s.state (sends s.query ++ es) (to_draw m may s e) x y → y.asked ≡ x.asked
    asked_idle m may s e h k = sym (one_cut x.before y.before x.asked y.asked x.behind y.behind (sym at ∙ sym (ap (λ (z : Sent). z.state.walks) h) ∙ k.walks_are) (sym k.place_is)).1

    pub asked_draw : (m : ℕ) (may : may_draw m (world r es) ≡ true) (s : Sent) (e : draw r m st ≡ Ok s) → (h : Sending r m st s) → Stays r st es s.state (sends s.query ++ es) (to_draw m may s e) x y → y.asked ≡ count_try r st h.pending x.asked
    asked_draw m may s e h k = asked_by (count_try r st h.pending) s.state.walks y (ap (λ (z : Sent). z.state.walks) h.sent_is) k.walks_are k.place_is

    pub asked_hear : (z : Response) (m : Memᴰ z (world r es).responses) (p : Pending) (f : first (λ (z' : Pending). eqb z'.query.id z.id) st.pending ≡ Some p) (h : Heard) (e : machine.hear r z st ≡ Ok h) → Stays r st es h.state (hearing r st z p ++ es) (to_hear z m p f h e) x y → y.asked ≡ count_try r st p x.asked
    asked_hear z m p f h e k = asked_by (count_try r st p) h.state.walks y (ap (λ (z : State). z.walks) (heard_keeps r z st p h f e).1) k.walks_are k.place_is

    pub asked_tick : Stays r st es (tick r st) (Tick ∷ es) to_tick x y → y.asked ≡ counted_by r st (closing r st) x.asked
    asked_tick k = asked_by (counted_by r st (closing r st)) (tick r st).walks y (ticked r st) k.walks_are k.place_is

    pub asked_others : (e : Event) (o : is_outside e ≡ true) (m : May (world r es) e) → Stays r st es st (e ∷ es) (by_others e o m) x y → y.asked ≡ x.asked
    asked_others e o m k = sym (one_cut x.before y.before x.asked y.asked x.behind y.behind (sym at ∙ k.walks_are) (sym k.place_is)).1

-- ---- a life is of a question under way

begun_at : (r : Rules) (u : Question) (st : State) → (begin r u st).shown ≡ None → (begin r u st).state ≡ with_walks (st.walks ++ (u ∷ [])) st
unfolding begin
begun_at r u st =
    cond_both (leb max_walks (length st.walks)) (record { state = st; shown = Some (shown_as u Nowhere 0) }) (begin_by u st (standing r st u)) (λ (b : Began). b.shown ≡ None → b.state ≡ with_walks (st.walks ++ (u ∷ [])) st)
    (λ e h. absurd (some_none (shown_as u Nowhere 0) (sym h))) (λ e. by (standing r st u))
  where
    by : (x : Standing) → (begin_by u st x).shown ≡ None → (begin_by u st x).state ≡ with_walks (st.walks ++ (u ∷ [])) st
    by (Done a n) h = absurd (some_none (shown_as u a n) (sym h))
    by (Awaits a p) h = refl
    by (Wants a p ss o) h = refl

pub in_run : (r : Rules) (st : State) (es : List Event) (x : Spot) (m n : ℕ) → Life r st es x m n → Joint r st es × (st.walks ≡ all_of x)
in_run r st es x m n (begun {st = s} j t q k h) = (begins j (question t q k), ap (λ (z : State). z.walks) (begun_at r (question t q k) s h))
in_run r st es x m n (goes_on {st = s} {es = fs} {x = z} {sent = a} {seconds = b} l c k) = (calls r s fs st es (in_run r s fs z a b l).0 c, k.walks_are)

-- ---- for whom a query is sent

pub sent_for_one : (r : Rules) (st : State) (n : ℕ) (s : Sent) (q : Query) → draw r n st ≡ Ok s → s.query ≡ Some q → SentFor r st q
sent_for_one r st n s q e h = go (drew_so r n st s e)
  where
    go : NoneSent st s ⊎ Sending r n st s → SentFor r st q
    go (inl k) = absurd (some_none q (sym (ap (λ (z : Sent). z.query) k) ∙ h))
    go (inr k) =
        let same_query : k.pending.query ≡ q = some_is k.pending.query q (sym (ap (λ (z : Sent). z.query) k.sent_is) ∙ h) in
        let i : query_for n (get_or k.servers (place_for n (length k.servers) k.try) []) k.apex k.name k.spot.asked.kind st.now ≡ q = sym k.query_is ∙ same_query in
        let a : k.apex ≡ q.apex = ap (λ (z : Query). z.apex) i in
        let p : k.name ≡ q.name = ap (λ (z : Query). z.name) i in
        let w = wants_so r st k.spot.asked k.apex k.name k.servers k.try k.wanted in
        record {
          spot = k.spot;
          under_way = k.under_way;
          next_one = and_from (wants r st k.spot.asked) (not (any (wants r st) k.spot.behind)) (ap is_waiting k.wanted) (not_from_false (any (wants r st) k.spot.behind) k.none_behind);
          servers = k.servers;
          wanted = k.wanted ∙ ap (Wants k.apex k.name k.servers) w.tried_is ∙ (λ j. Wants (a j) (p j) k.servers (tried_of (a j) (p j) k.spot.asked.tries));
          kind_is = sym (ap (λ (z : Query). z.kind) i);
          only = λ x at next.
              let f = and_parts (wants r st x.asked) (not (any (wants r st) x.behind)) next in
              let e = one_last (wants r st) x.before k.spot.before x.asked k.spot.asked x.behind k.spot.behind (sym at ∙ k.under_way) f.0 (ap is_waiting k.wanted) (not-true (any (wants r st) x.behind) f.1) k.none_behind in
              one_spot x k.spot (sym at ∙ k.under_way) e;
        }

-- whose turn it is, it is sent for
pub turn_is : (r : Rules) (n : ℕ) (st : State) (s : Sent) (x : Spot) → st.walks ≡ all_of x → is_next r st x ≡ true → (k : Sending r n st s) → x.asked ≡ k.spot.asked
turn_is r n st s x at next k =
    let h = and_parts (wants r st x.asked) (not (any (wants r st) x.behind)) next in
    some_is x.asked k.spot.asked
    (sym (last_here (wants r st) x.before x.asked x.behind h.0 (not-true (any (wants r st) x.behind) h.1)) ∙ ap (last_of (wants r st)) (sym at ∙ k.under_way)
    ∙ last_here (wants r st) k.spot.before k.spot.asked k.spot.behind (ap is_waiting k.wanted) k.none_behind)
