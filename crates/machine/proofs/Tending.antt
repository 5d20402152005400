-- How one sees that nothing is left to show or to ask, and that one comes to it.
use Rattle.std.proofs.Common.{◌≡◌, ℕ, suc, ◌<◌, ◌≤◌, Bool, true, false, cond, leb, ◌⊎◌, List, [], ◌∷◌, ◌++◌, map, length, Some, None, Ok, Err, Option, sym, refl, ap, ◌∙◌, subst, inl, inr, ⊎_elim, true≢false, arith}
use mathlib.Core.List.Memᴰ
use mathlib.Core.List.{Memᴰ}
use Rattle.names.specs.declared.fault.Fault.{Fault}
use Rattle.names.specs.declared.fault.Fault.TheVariants.{Malformed}
use Rattle.std.proofs.lemmas.Bool.{cond-true, cond-false, false_from_ne_true, lt-leb}
use Rattle.protocol.specs.Lists.{first, kept}
use Rattle.protocol.specs.Words.{Name}
use Rattle.protocol.specs.World.{Rules, Query, Entry, Event, may_draw, world}
use Rattle.protocol.specs.Walks.{End, Shows, LacksAt, TooLong}
use Rattle.protocol.proofs.Lists.{some_none, any_none, first_here, first_there, first_none, kept_here, kept_not}
use Rattle.machine.specs.Machine.{max_pending, Question, Pending, State, Answer, Nowhere, Shown, walk_of, servers_on, tried_of, too_many, is_for, pending_for, Standing, Done, Awaits, Wants, lacking, standing_by, standing, shown_as, is_done, settle_on, settle_in, settle, lacks_for, count_try, is_waiting, last_of, Sent, send, send_on, is_pending, draw}
use Rattle.machine.specs.Refine.{sends, Joint, draws}
use Rattle.machine.specs.Bounds.{wants, is_awaiting}
use Rattle.machine.proofs.Alike.{map_in, in_map}
use Rattle.machine.proofs.Counting.{by_counting, counts_none, counted_new}
use Rattle.machine.proofs.Lives.{NoneSent, Sending, drew_so, sending_for, none_last, last_at}
use Rattle.machine.proofs.Patient.{for_so, so_for, lack_of}
use Rattle.machine.proofs.Places.{own_stands, place_left}
use Rattle.machine.proofs.Refining.{ok_is, err_ok}
use Rattle.machine.proofs.Standings.{wants_so}
use Rattle.machine.proofs.Trying.{more_found}

module _ (r : Rules) (st : State) where
  none_in : (us : List Question) → (settle_in r st us).shown ≡ None → (u : Question) → Memᴰ u us → is_done (standing r st u) ≡ None
  unfolding settle_in
  none_in [] h u m = absurd (Memᴰ.not-nil m)
  none_in (v ∷ us) h u m = go (is_done (standing r st v)) refl (none_in us)
    where
      go : (o : Option (Answer × ℕ)) → is_done (standing r st v) ≡ o → ((settle_in r st us).shown ≡ None → (u : Question) → Memᴰ u us → is_done (standing r st u) ≡ None) → is_done (standing r st u) ≡ None
      go (Some z) e ih = absurd (some_none (shown_as v z.0 z.1) (sym h ∙ ap (λ p. (settle_on v us p (settle_in r st us)).shown) e))
      go None e ih =
          ⊎_elim (λ i. ap (λ x. is_done (standing r st x)) i ∙ e)
          (λ k. ih (sym (ap (λ p. (settle_on v us p (settle_in r st us)).shown) e) ∙ h) u k) (Memᴰ.cases_cons m)

  pub none_done : (settle r st).shown ≡ None → (u : Question) → Memᴰ u st.walks → is_done (standing r st u) ≡ None
  none_done h u m = none_in st.walks h u m

  -- an id that has a place goes to whoever wants a query
  drew_all : (n : ℕ) (s : Sent) → draw r n st ≡ Ok s → length st.pending < max_pending → send_on r n st (last_of (wants r st) st.walks) ≡ s
  unfolding draw
  drew_all n s h room = go (is_pending n st.pending) refl
    where
      go : (b : Bool) → is_pending n st.pending ≡ b → send_on r n st (last_of (wants r st) st.walks) ≡ s
      go true e = absurd (err_ok Malformed s (sym (cond-true (is_pending n st.pending) (Err Malformed) _ e) ∙ h))
      go false e =
          ok_is {B = Fault} (send_on r n st (last_of (wants r st) st.walks)) s
          (sym (cond-false (is_pending n st.pending) (Err Malformed) _ e ∙ cond-false (leb max_pending (length st.pending)) (Ok (record { state = st; query = None })) (Ok (send_on r n st (last_of (wants r st) st.walks))) (lt-leb max_pending (length st.pending) room)) ∙ h)

  none_waits : (n : ℕ) (s : Sent) → draw r n st ≡ Ok s → s.query ≡ None → length st.pending < max_pending → (u : Question) → Memᴰ u st.walks → wants r st u ≡ false
  none_waits n s h none room u m = go (last_of (wants r st) st.walks) refl
    where
      go : (o : Option Question) → last_of (wants r st) st.walks ≡ o → wants r st u ≡ false
      go None e = false_from_ne_true (wants r st u) (any_none (wants r st) st.walks (none_last (wants r st) st.walks e) u m)
      go (Some v) e =
          let k = last_at (wants r st) st.walks v e in
          let f = sending_for r n st s v k.0 k.1 k.2 k.3 k.4 (standing r st v) refl (sym (ap (send_on r n st) e) ∙ drew_all n s h room) in
          absurd (some_none f.pending.query (sym none ∙ ap (λ (z : Sent). z.query) f.sent_is))

  left_waiting : (x : Standing) → is_done x ≡ None → is_waiting x ≡ false → is_awaiting x ≡ true
  left_waiting (Done a n) h e = absurd (some_none (a, n) (sym h))
  left_waiting (Awaits a p) h e = refl
  left_waiting (Wants a p ss o) h e = absurd (true≢false e)

pub all_wait : (r : Rules) (st : State) (es : List Event) → r.patience ≤ 5 → Joint r st es → (settle r st).shown ≡ None → (n : ℕ) (s : Sent) → draw r n st ≡ Ok s → s.query ≡ None → (u : Question) → Memᴰ u st.walks → is_awaiting (standing r st u) ≡ true
all_wait r st es p j h n s e none u m = left_waiting r st (standing r st u) (none_done r st h u m) (go (wants r st u) refl)
  where
    go : (b : Bool) → wants r st u ≡ b → wants r st u ≡ false
    go false i = i
    go true i = none_waits r st n s e none (place_left r st es j p u m i) u m

-- ---- what is shown leaves fewer

fewer_in : (r : Rules) (st : State) (us : List Question) (x : Shown) → (settle_in r st us).shown ≡ Some x → length (settle_in r st us).walks < length us
unfolding settle_in
fewer_in r st [] x h = absurd (some_none x h)
fewer_in r st (u ∷ us) x h = go (is_done (standing r st u)) refl (fewer_in r st us x)
  where
    go : (o : Option (Answer × ℕ)) → is_done (standing r st u) ≡ o → ((settle_in r st us).shown ≡ Some x → length (settle_in r st us).walks < length us) → length (settle_on u us (is_done (standing r st u)) (settle_in r st us)).walks < suc (length us)
    go None e ih =
        let k = ih (sym (ap (λ p. (settle_on u us p (settle_in r st us)).shown) e) ∙ h) in
        let l = ap (λ p. length (settle_on u us p (settle_in r st us)).walks) e in
        omega arith
    go (Some z) e ih = let l = ap (λ p. length (settle_on u us p (settle_in r st us)).walks) e in omega arith

pub fewer_left : (r : Rules) (st : State) (x : Shown) → (settle r st).shown ≡ Some x → length (settle r st).state.walks < length st.walks
fewer_left r st x h = fewer_in r st st.walks x h

none_shown : (r : Rules) (st : State) (us : List Question) → ((u : Question) → Memᴰ u us → is_done (standing r st u) ≡ None) → (settle_in r st us).shown ≡ None
unfolding settle_in
none_shown r st [] h = refl
none_shown r st (u ∷ us) h = ap (λ p. (settle_on u us p (settle_in r st us)).shown) (h u (Memᴰ.head refl)) ∙ none_shown r st us (λ v m. h v (Memᴰ.tail m))

-- ---- what is sent leaves fewer that want a query

fewer_kept : {A : Type 0} (f : A → A) (s t : A → Bool) (xs : List A) → ((x : A) → s (f x) ≡ true → t x ≡ true) → length (kept s (map f xs)) ≤ length (kept t xs)
unfolding kept
fewer_kept f s t [] h = omega arith
fewer_kept {A} f s t (x ∷ xs) h = go (s (f x)) refl (t x) refl (fewer_kept f s t xs h)
  where
    go : (b : Bool) → s (f x) ≡ b → (c : Bool) → t x ≡ c → length (kept s (map f xs)) ≤ length (kept t xs) → length (kept s (map f (x ∷ xs))) ≤ length (kept t (x ∷ xs))
    go true e true g ih = let a = ap length (kept_here s (f x) (map f xs) e) in let b = ap length (kept_here t x xs g) in omega arith
    go true e false g ih = absurd (true≢false (sym (h x e) ∙ g))
    go false e true g ih = let a = ap length (kept_not s (f x) (map f xs) e) in let b = ap length (kept_here t x xs g) in omega arith
    go false e false g ih = let a = ap length (kept_not s (f x) (map f xs) e) in let b = ap length (kept_not t x xs g) in omega arith

one_fewer : {A : Type 0} (f : A → A) (s t : A → Bool) (xs : List A) → ((x : A) → s (f x) ≡ true → t x ≡ true) → (u : A) → Memᴰ u xs → t u ≡ true → s (f u) ≡ false → length (kept s (map f xs)) < length (kept t xs)
unfolding kept
one_fewer f s t [] h u m i k = absurd (Memᴰ.not-nil m)
one_fewer {A} f s t (x ∷ xs) h u m i k = ⊎_elim at_head (λ n. further (one_fewer f s t xs h u n i k)) (Memᴰ.cases_cons m)
  where
    at_head : u ≡ x → length (kept s (map f (x ∷ xs))) < length (kept t (x ∷ xs))
    at_head e =
        let l = fewer_kept f s t xs h in
        let a = ap length (kept_not s (f x) (map f xs) (ap (λ y. s (f y)) (sym e) ∙ k)) in
        let b = ap length (kept_here t x xs (ap t (sym e) ∙ i)) in
        omega arith

    further : length (kept s (map f xs)) < length (kept t xs) → length (kept s (map f (x ∷ xs))) < length (kept t (x ∷ xs))
    further l = go (s (f x)) refl (t x) refl
      where
        go : (b : Bool) → s (f x) ≡ b → (c : Bool) → t x ≡ c → length (kept s (map f (x ∷ xs))) < length (kept t (x ∷ xs))
        go true e true g = let a = ap length (kept_here s (f x) (map f xs) e) in let b = ap length (kept_here t x xs g) in omega arith
        go true e false g = absurd (true≢false (sym (h x e) ∙ g))
        go false e true g = let a = ap length (kept_not s (f x) (map f xs) e) in let b = ap length (kept_here t x xs g) in omega arith
        go false e false g = let a = ap length (kept_not s (f x) (map f xs) e) in let b = ap length (kept_not t x xs g) in omega arith

first_more : {A : Type 0} (test : A → Bool) (xs : List A) (y : A) → test y ≡ false → first test (xs ++ (y ∷ [])) ≡ first test xs
unfolding first
first_more test [] y h = first_there test y [] h
first_more {A} test (x ∷ xs) y h = go (test x) refl (first_more test xs y h)
  where
    go : (b : Bool) → test x ≡ b → first test (xs ++ (y ∷ [])) ≡ first test xs → first test (x ∷ (xs ++ (y ∷ []))) ≡ first test (x ∷ xs)
    go true e ih = first_here test x (xs ++ (y ∷ [])) e ∙ sym (first_here test x xs e)
    go false e ih = first_there test x (xs ++ (y ∷ [])) e ∙ ih ∙ sym (first_there test x xs e)

module _ (r : Rules) (st : State) (p : Pending) where
  abbrev after : State
  after = (send r st p).state

  -- a question that lacks another word stands as before
  stands_by : (v : Question) (ws : List Entry) (e : End) → lacks_for p v.kind e ≡ false → standing_by r after v ws e ≡ standing_by r st v ws e
  stands_by v ws (Shows o) h = refl
  stands_by v ws TooLong h = refl
  stands_by v ws (LacksAt a q) h =
      ap (λ z. cond (too_many (tried_of a q v.tries) v.tries) (Done Nowhere 0) (lacking a q (servers_on r ws) (tried_of a q v.tries) z)) (first_more (is_for a q v.kind) st.pending p h)

  stands_same : (v : Question) → lacks_for p v.kind (walk_of r st v).end ≡ false → standing r after (count_try r st p v) ≡ standing r st v
  unfolding standing
  stands_same v h = ap (standing r after) (counts_none r st p v h) ∙ stands_by v (walk_of r st v).words (walk_of r st v).end h

  -- one that lacks the word wants no query for it now
  wants_no_more : (v : Question) → lacks_for p v.kind (walk_of r st v).end ≡ true → wants r after (count_try r st p v) ≡ false
  wants_no_more v h = go (standing r after (count_try r st p v)) refl
    where
      lacks_it : lacks_for p (count_try r st p v).kind (walk_of r st (count_try r st p v)).end ≡ true
      lacks_it = by_counting r st p v (λ u. lacks_for p u.kind (walk_of r st u).end ≡ true) h (λ f. h)

      go : (x : Standing) → standing r after (count_try r st p v) ≡ x → wants r after (count_try r st p v) ≡ false
      go (Done a n) e = ap is_waiting e
      go (Awaits a q) e = ap is_waiting e
      go (Wants a q ss o) e =
          let k = wants_so r after (count_try r st p v) a q ss o e in
          absurd (first_none (is_for a q (count_try r st p v).kind) (st.pending ++ (p ∷ [])) k.not_pending p (Memᴰ.append_right st.pending (Memᴰ.head refl)) (sym (ap (lacks_for p (count_try r st p v).kind) k.lacks) ∙ lacks_it))

  wanted_before : (v : Question) → wants r after (count_try r st p v) ≡ true → wants r st v ≡ true
  wanted_before v h = go (lacks_for p v.kind (walk_of r st v).end) refl
    where
      go : (b : Bool) → lacks_for p v.kind (walk_of r st v).end ≡ b → wants r st v ≡ true
      go true e = absurd (true≢false (sym h ∙ wants_no_more v e))
      go false e = sym (ap is_waiting (stands_same v e)) ∙ h

asker_in : (r : Rules) (n : ℕ) (st : State) (s : Sent) (k : Sending r n st s) → Memᴰ k.spot.asked st.walks
asker_in r n st s k = subst (Memᴰ k.spot.asked) (sym k.under_way) (Memᴰ.append_right k.spot.before (Memᴰ.head refl))

asker_lacks : (r : Rules) (n : ℕ) (st : State) (s : Sent) (k : Sending r n st s) → lacks_for k.pending k.spot.asked.kind (walk_of r st k.spot.asked).end ≡ true
asker_lacks r n st s k =
    ap (lacks_for k.pending k.spot.asked.kind) (wants_so r st k.spot.asked k.apex k.name k.servers k.try k.wanted).lacks
    ∙ so_for k.apex k.name k.spot.asked.kind k.pending (record { apex_is = ap (λ (q : Query). q.apex) k.query_is; name_is = ap (λ (q : Query). q.name) k.query_is; kind_is = ap (λ (q : Query). q.kind) k.query_is })

pub fewer_want : (r : Rules) (st : State) (n : ℕ) (s : Sent) (q : Query) → draw r n st ≡ Ok s → s.query ≡ Some q → length (kept (wants r s.state) s.state.walks) < length (kept (wants r st) st.walks)
fewer_want r st n s q e h = go (drew_so r n st s e)
  where
    go : NoneSent st s ⊎ Sending r n st s → length (kept (wants r s.state) s.state.walks) < length (kept (wants r st) st.walks)
    go (inl k) = absurd (some_none q (sym (ap (λ (z : Sent). z.query) k) ∙ h))
    go (inr k) =
        subst (λ (z : Sent). length (kept (wants r z.state) z.state.walks) < length (kept (wants r st) st.walks)) (sym k.sent_is)
        (one_fewer (count_try r st k.pending) (wants r (send r st k.pending).state) (wants r st) st.walks (wanted_before r st k.pending) k.spot.asked (asker_in r n st s k)
        (ap is_waiting k.wanted) (wants_no_more r st k.pending k.spot.asked (asker_lacks r n st s k)))

-- ---- and makes none done

usable_of : (r : Rules) (st : State) (v : Question) (a q : Name) → (walk_of r st v).end ≡ LacksAt a q → is_done (standing r st v) ≡ None → too_many (tried_of a q v.tries) v.tries ≡ false
unfolding standing
usable_of r st v a q e h = go (too_many (tried_of a q v.tries) v.tries) refl
  where
    go : (b : Bool) → too_many (tried_of a q v.tries) v.tries ≡ b → too_many (tried_of a q v.tries) v.tries ≡ false
    go false f = f
    go true f =
        absurd (some_none (Nowhere, 0) (sym h ∙ ap is_done (ap (standing_by r st v (walk_of r st v).words) e ∙ cond-true (too_many (tried_of a q v.tries) v.tries) (Done Nowhere 0) (lacking a q (servers_on r (walk_of r st v).words) (tried_of a q v.tries) (pending_for a q v.kind st.pending)) f)))

module _ (r : Rules) (st : State) (es : List Event) (n : ℕ) (s : Sent) (k : Sending r n st s) (j : Joint r (send r st k.pending).state es) (none : (u : Question) → Memᴰ u st.walks → is_done (standing r st u) ≡ None) where
  -- one that lacks the word awaits this query
  own_awaits : (v : Question) → Memᴰ v st.walks → (a : Name) × (q : Name) × ((walk_of r st v).end ≡ LacksAt a q) × (is_for a q v.kind k.pending ≡ true) → is_done (standing r (send r st k.pending).state (count_try r st k.pending v)) ≡ None
  own_awaits v m l =
      let usable = usable_of r st v l.0 l.1 l.2 (none v m) in
      let w = for_so l.0 l.1 v.kind k.pending l.3 in
      let f = more_found l.0 l.1 k.pending.place k.pending.query.id v.tries in
      let lacks_it = ap (lacks_for k.pending v.kind) l.2 ∙ l.3 in
      own_stands r (send r st k.pending).state es j k.pending (Memᴰ.append_right st.pending (Memᴰ.head refl))
      (record {
        asked = count_try r st k.pending v;
        under_way = in_map (count_try r st k.pending) st.walks v m;
        lacks = by_counting r st k.pending v (λ u. lacks_for k.pending u.kind (walk_of r st u).end ≡ true) lacks_it (λ g. lacks_it);
        try = f.0;
        try_is = (λ i. tried_of (w.apex_is i) (w.name_is i) (counted_new r st v l.0 l.1 l.2 usable k.pending l.3 i)) ∙ f.1;
        id_is = f.2;
      })

  none_after : (u : Question) → Memᴰ u (map (count_try r st k.pending) st.walks) → is_done (standing r (send r st k.pending).state u) ≡ None
  none_after u m =
      let x = map_in (count_try r st k.pending) st.walks u m in
      subst (λ v. is_done (standing r (send r st k.pending).state v) ≡ None) x.2 (go x.0 x.1 (lacks_for k.pending x.0.kind (walk_of r st x.0).end) refl)
    where
      go : (v : Question) → Memᴰ v st.walks → (b : Bool) → lacks_for k.pending v.kind (walk_of r st v).end ≡ b → is_done (standing r (send r st k.pending).state (count_try r st k.pending v)) ≡ None
      go v i true e = own_awaits v i (lack_of k.pending v.kind (walk_of r st v).end e)
      go v i false e = ap is_done (stands_same r st k.pending v e) ∙ none v i

pub still_none : (r : Rules) (st : State) (es : List Event) → Joint r st es → (settle r st).shown ≡ None → (n : ℕ) → may_draw n (world r es) ≡ true → (s : Sent) → draw r n st ≡ Ok s → (settle r s.state).shown ≡ None
still_none r st es j h n may s e = go (drew_so r n st s e)
  where
    go : NoneSent st s ⊎ Sending r n st s → (settle r s.state).shown ≡ None
    go (inl k) = ap (λ (z : Sent). (settle r z.state).shown) k ∙ h
    go (inr k) =
        ap (λ (z : Sent). (settle r z.state).shown) k.sent_is
        ∙ none_shown r (send r st k.pending).state (send r st k.pending).state.walks
        (none_after r st (sends s.query ++ es) n s k (subst (λ (z : Sent). Joint r z.state (sends s.query ++ es)) k.sent_is (draws j n may s e)) (none_done r st h))
