-- The machine itself asks for the word that its youngest question lacks, and hears it.
use Rattle.std.proofs.Common.{◌≡◌, ℕ, zero, suc, ◌+◌, ◌*◌, ◌%◌, ◌<◌, ◌≤◌, Bool, true, false, cond, not, ◌&&◌, eqb, leb, ◌⊎◌, List, [], ◌∷◌, ◌++◌, map, length, get_or, Some, None, Ok, Err, Option, sym, refl, ap, ◌∙◌, subst, inl, inr, ⊎_elim, true≢false, append_assoc, mul-suc, arith}
use mathlib.Core.List.Memᴰ
use mathlib.Core.List.{map-append, Memᴰ}
use lib.ListN.{length-map}
use Rattle.std.specs.Option.{option_or}
use Rattle.names.specs.declared.fault.Fault.TheVariants.{Malformed, WrongApex}
use Rattle.names.specs.Order.{same_label, within}
use Rattle.std.proofs.lemmas.Nat.{mod-mul-add}
use Rattle.std.proofs.lemmas.Bool.{cond-true, cond-false, cond_both, and_parts, and_from, not-true, not_from_false, eq-eqb, ne_eqb, lt-leb}
use Rattle.meaning.specs.Says.{same}
use Rattle.meaning.proofs.Rules.{same_so, so_same}
use Rattle.protocol.specs.Lists.{first, kept}
use Rattle.protocol.specs.Words.{Name, Server, Word, Outcome, Next, Ends, Goes, next, tells}
use Rattle.protocol.specs.World.{Rules, Copy, Query, Response, Entry, World, Event, Asks, Responds, Hears, Forgets, with_query, with_responses, is_copy_at, copy_at, unexpired, copy_says, respond, drawn, may_draw, may_ask, matching, hear, is_key, entry_for, query_for, world}
use Rattle.protocol.specs.Walks.{Shows, LacksAt, TooLong, Walk, walk, remembered, entry_said}
use Rattle.protocol.specs.Promise.{price, offers_in}
use Rattle.protocol.proofs.Lists.{some_none, first_here, first_there, first_some, kept_in, none_any, some_any, any_none}
use Rattle.protocol.proofs.Fetch.{above_all}
use Rattle.protocol.proofs.Settled.{held, found_by}
use Rattle.protocol.proofs.Steps.{inv}
use Rattle.protocol.proofs.Walks.{walk_none, walk_lacks, walk_ends, walk_goes}
use Rattle.machine.specs.Store.{Put, Kept, Ousted, NoRoom, put}
use Rattle.machine.specs.Machine as machine
use Rattle.machine.specs.Machine.{max_words, Tried, Question, Pending, State, queries_of, walk_of, servers_on, is_word, tried_of, too_many, exhausted, pending_for, Standing, Done, Wants, Nowhere, lacking, standing_by, standing, count_up, try_more, lacks_for, count_try, count_tries, place_for, Sent, last_of, is_waiting, send, send_on, send_for, is_pending, draw, misfit, used_by, in_use, Heard, close_in, keep, heard_by, hear_fit, hear_for}
use Rattle.machine.specs.Live.{SoundZone, all_steps}
use Rattle.machine.specs.Refine.{Stands, drops, hearing, Joint, draws, hears, others}
use Rattle.machine.proofs.Alike.{in_map}
use Rattle.machine.proofs.Fitting.{fits_query}
use Rattle.machine.proofs.Keys.{of_key, key_so, key_self, one_of}
use Rattle.machine.proofs.Main.{Runs, runs}
use Rattle.machine.proofs.Paths.{recalled, never_full}
use Rattle.machine.proofs.Refining.{guard}
use Rattle.machine.proofs.Storing.{store_laws}

-- ---- an id that was never drawn, whose place is a given one

below_times : (k many : ℕ) → 0 < many → k ≤ k * many
below_times k zero l = absurd (omega arith)
below_times k (suc m) l = let e = mul-suc k m in omega arith

pub drawable : (qs : List Query) (many i : ℕ) → i < many → (n : ℕ) × (drawn n qs ≡ false) × (n % many ≡ i)
drawable qs many i l =
    let r = above_all qs in
    let k = below_times r.0 many (omega arith) in
    let n = r.0 * many + i in (
      r.0 * many + i,
      none_any (λ (q : Query). eqb q.id (r.0 * many + i)) qs (λ q m. ne_eqb q.id (r.0 * many + i) (λ e. let h = r.1 q m in omega arith)),
      mod-mul-add r.0 many i l,
    )

index_in : (ss : List Server) (s : Server) → Memᴰ s ss → (i : ℕ) × (i < length ss) × (get_or ss i [] ≡ s)
index_in [] s m = absurd (Memᴰ.not-nil m)
index_in (t ∷ ss) s m = go (index_in ss s) (Memᴰ.cases_cons m)
  where
    go : (Memᴰ s ss → (i : ℕ) × (i < length ss) × (get_or ss i [] ≡ s)) → (s ≡ t) ⊎ Memᴰ s ss → (i : ℕ) × (i < length (t ∷ ss)) × (get_or (t ∷ ss) i [] ≡ s)
    go ih (inl e) = (0, omega arith, sym e)
    go ih (inr n) = let r = ih n in let l = r.1 in (suc r.0, omega arith, r.2)

-- ---- the last of a list

last_snoc : {A : Type 0} (test : A → Bool) (xs : List A) (x : A) → test x ≡ true → last_of test (xs ++ (x ∷ [])) ≡ Some x
unfolding last_of
last_snoc test [] x h = cond-true (test x) (Some x) None h
last_snoc test (y ∷ ys) x h = ap (λ o. option_or o (cond (test y) (Some y) None)) (last_snoc test ys x h)

first_snoc : {A : Type 0} (test : A → Bool) (xs : List A) (x : A) → ((y : A) → Memᴰ y xs → test y ≡ false) → test x ≡ true → first test (xs ++ (x ∷ [])) ≡ Some x
first_snoc test [] x h t = first_here test x [] t
first_snoc test (y ∷ ys) x h t = first_there test y (ys ++ (x ∷ [])) (h y (Memᴰ.head refl)) ∙ first_snoc test ys x (λ z m. h z (Memᴰ.tail m)) t

-- ---- tries

-- a query counts once
again : (a p : Name) (at n : ℕ) (ts : List Tried) → try_more a p at n (try_more a p at n ts) ≡ try_more a p at n ts
unfolding try_more
again a p at n [] =
    cond-true (is_word a p new) (cond (eqb n n) (new ∷ []) (record { apex = a; name = p; count = count_up 1; place = at; id = n } ∷ [])) (new ∷ try_more a p at n []) (and_from (same a a) (same p p) (so_same a a refl) (so_same p p refl))
    ∙ cond-true (eqb n n) (new ∷ []) (record { apex = a; name = p; count = count_up 1; place = at; id = n } ∷ []) (eq-eqb n n refl)
  where
    new : Tried
    new = record { apex = a; name = p; count = 1; place = at; id = n }
again a p at n (t ∷ ts) = go (is_word a p t) refl (eqb t.id n) refl (again a p at n ts)
  where
    bumped : Tried
    bumped = record { apex = t.apex; name = t.name; count = count_up t.count; place = at; id = n }

    go : (b : Bool) → is_word a p t ≡ b → (c : Bool) → eqb t.id n ≡ c → try_more a p at n (try_more a p at n ts) ≡ try_more a p at n ts → try_more a p at n (try_more a p at n (t ∷ ts)) ≡ try_more a p at n (t ∷ ts)
    go true e true f ih = let h = here e f in ap (try_more a p at n) h
      where
        here : is_word a p t ≡ true → eqb t.id n ≡ true → try_more a p at n (t ∷ ts) ≡ t ∷ ts
        here e f = cond-true (is_word a p t) (cond (eqb t.id n) (t ∷ ts) (bumped ∷ ts)) (t ∷ try_more a p at n ts) e ∙ cond-true (eqb t.id n) (t ∷ ts) (bumped ∷ ts) f
    go true e false f ih =
        let h = cond-true (is_word a p t) (cond (eqb t.id n) (t ∷ ts) (bumped ∷ ts)) (t ∷ try_more a p at n ts) e ∙ cond-false (eqb t.id n) (t ∷ ts) (bumped ∷ ts) f in
        ap (try_more a p at n) h ∙ cond-true (is_word a p bumped) (cond (eqb n n) (bumped ∷ ts) (record { apex = t.apex; name = t.name; count = count_up (count_up t.count); place = at; id = n } ∷ ts)) (bumped ∷ try_more a p at n ts) e
        ∙ cond-true (eqb n n) (bumped ∷ ts) (record { apex = t.apex; name = t.name; count = count_up (count_up t.count); place = at; id = n } ∷ ts) (eq-eqb n n refl) ∙ sym h
    go false e c f ih =
        let h = cond-false (is_word a p t) (cond (eqb t.id n) (t ∷ ts) (bumped ∷ ts)) (t ∷ try_more a p at n ts) e in
        ap (try_more a p at n) h ∙ cond-false (is_word a p t) (cond (eqb t.id n) (t ∷ try_more a p at n ts) (bumped ∷ try_more a p at n ts)) (t ∷ try_more a p at n (try_more a p at n ts)) e
        ∙ ap (λ xs. t ∷ xs) ih ∙ sym h

-- a try is one of before, or of this word
pub tried_in : (a p : Name) (at n : ℕ) (ts : List Tried) (t : Tried) → Memᴰ t (try_more a p at n ts) → ((x : Tried) × Memᴰ x ts × (x.apex ≡ t.apex) × (x.name ≡ t.name)) ⊎ ((t.apex ≡ a) × (t.name ≡ p))
unfolding try_more
tried_in a p at n [] t m = let e = Memᴰ.eq_of_singleton m in inr (ap (λ (x : Tried). x.apex) e, ap (λ (x : Tried). x.name) e)
tried_in a p at n (y ∷ ys) t m = go (is_word a p y) refl (eqb y.id n) refl (tried_in a p at n ys t)
  where
    bumped : Tried
    bumped = record { apex = y.apex; name = y.name; count = count_up y.count; place = at; id = n }

    Goal : Type 0
    Goal = ((x : Tried) × Memᴰ x (y ∷ ys) × (x.apex ≡ t.apex) × (x.name ≡ t.name)) ⊎ ((t.apex ≡ a) × (t.name ≡ p))

    go : (b : Bool) → is_word a p y ≡ b → (c : Bool) → eqb y.id n ≡ c → (Memᴰ t (try_more a p at n ys) → ((x : Tried) × Memᴰ x ys × (x.apex ≡ t.apex) × (x.name ≡ t.name)) ⊎ ((t.apex ≡ a) × (t.name ≡ p))) → Goal
    go true e true f ih =
        let k = subst (Memᴰ t) (cond-true (is_word a p y) (cond (eqb y.id n) (y ∷ ys) (bumped ∷ ys)) (y ∷ try_more a p at n ys) e ∙ cond-true (eqb y.id n) (y ∷ ys) (bumped ∷ ys) f) m in
        inl (t, k, refl, refl)
    go true e false f ih =
        let k = subst (Memᴰ t) (cond-true (is_word a p y) (cond (eqb y.id n) (y ∷ ys) (bumped ∷ ys)) (y ∷ try_more a p at n ys) e ∙ cond-false (eqb y.id n) (y ∷ ys) (bumped ∷ ys) f) m in
        ⊎_elim (λ i. inl (y, Memᴰ.head refl, sym (ap (λ (x : Tried). x.apex) i), sym (ap (λ (x : Tried). x.name) i))) (λ l. inl (t, Memᴰ.tail l, refl, refl)) (Memᴰ.cases_cons k)
    go false e c f ih =
        let k = subst (Memᴰ t) (cond-false (is_word a p y) (cond (eqb y.id n) (y ∷ ys) (bumped ∷ ys)) (y ∷ try_more a p at n ys) e) m in
        ⊎_elim (λ i. inl (t, Memᴰ.head i, refl, refl)) (λ l. ⊎_elim (λ g. inl (g.0, Memᴰ.tail g.1, g.2, g.3)) (λ g. inr g) (ih l)) (Memᴰ.cases_cons k)

pub tries_least : (a p : Name) (at n : ℕ) (ts : List Tried) → length (try_more a p at n ts) ≤ length ts + 1
unfolding try_more
tries_least a p at n [] = omega arith
tries_least a p at n (y ∷ ys) = go (is_word a p y) refl (eqb y.id n) refl (tries_least a p at n ys)
  where
    bumped : Tried
    bumped = record { apex = y.apex; name = y.name; count = count_up y.count; place = at; id = n }

    go : (b : Bool) → is_word a p y ≡ b → (c : Bool) → eqb y.id n ≡ c → length (try_more a p at n ys) ≤ length ys + 1 → length (try_more a p at n (y ∷ ys)) ≤ suc (length ys) + 1
    go true e true f ih = let k = ap length (cond-true (is_word a p y) (cond (eqb y.id n) (y ∷ ys) (bumped ∷ ys)) (y ∷ try_more a p at n ys) e ∙ cond-true (eqb y.id n) (y ∷ ys) (bumped ∷ ys) f) in omega arith
    go true e false f ih = let k = ap length (cond-true (is_word a p y) (cond (eqb y.id n) (y ∷ ys) (bumped ∷ ys)) (y ∷ try_more a p at n ys) e ∙ cond-false (eqb y.id n) (y ∷ ys) (bumped ∷ ys) f) in omega arith
    go false e c f ih = let k = ap length (cond-false (is_word a p y) (cond (eqb y.id n) (y ∷ ys) (bumped ∷ ys)) (y ∷ try_more a p at n ys) e) in omega arith

-- ---- a walk that lacks a word

pub lack_none : (f : Name → Name → Option Entry) (n : ℕ) (a q c p : Name) → (walk entry_said n f a q).end ≡ LacksAt c p → f c p ≡ None
lack_none f zero a q c p e = absurd (not_long (sym (ap (λ (x : Walk Entry). x.end) (walk_none entry_said f a q)) ∙ e))
  where
    not_long : TooLong ≡ LacksAt c p → ⊥
    not_long h = let w : ◌≡◌ {A = ℕ} 0 1 = cc in omega arith
lack_none f (suc n) a q c p e = go (λ b x. lack_none f n b x c p) (f a q) refl
  where
    not_shown : (o : Outcome) → Shows o ≡ LacksAt c p → ⊥
    not_shown o h = let w : ◌≡◌ {A = ℕ} 0 1 = cc in omega arith

    apex_is : LacksAt a q ≡ LacksAt c p → a ≡ c
    apex_is h = cc

    name_is : LacksAt a q ≡ LacksAt c p → q ≡ p
    name_is h = cc

    by : ((b x : Name) → (walk entry_said n f b x).end ≡ LacksAt c p → f c p ≡ None) → (g : Entry) → f a q ≡ Some g → (x : Next) → next (entry_said g) q ≡ x → f c p ≡ None
    by ih g h (Ends o) d = absurd (not_shown o (sym (ap (λ (x : Walk Entry). x.end) (walk_ends entry_said n f a q g o h d)) ∙ e))
    by ih g h (Goes b x) d = ih b x (sym (ap (λ (y : Walk Entry). y.end) (walk_goes entry_said n f a q g b x h d)) ∙ e)

    go : ((b x : Name) → (walk entry_said n f b x).end ≡ LacksAt c p → f c p ≡ None) → (o : Option Entry) → f a q ≡ o → f c p ≡ None
    go ih None h =
        let i = sym (ap (λ (x : Walk Entry). x.end) (walk_lacks entry_said n f a q h)) ∙ e in
        (λ j. f (sym (apex_is i) j) (sym (name_is i) j)) ∙ h
    go ih (Some g) h = by ih g h (next (entry_said g) q) refl

-- ---- asking and hearing

-- what is left after the word was heard
pub record Had (r : Rules) (st : State) (es : List Event) (u : Question) (a p : Name) (t : Word) : Type 0 where
  pub moves : List Event
  pub after : State
  pub joint : Joint r after (moves ++ es)
  pub only_steps : all_steps moves ≡ true
  pub bound : price moves ≤ 3
  pub offers : offers_in moves ≤ 0
  pub front : List Question
  pub asked : Question
  pub walks_are : after.walks ≡ front ++ (asked ∷ [])
  pub ticket_is : asked.ticket ≡ u.ticket
  pub name_is : asked.name ≡ u.name
  pub kind_is : asked.kind ≡ u.kind
  pub at : ℕ
  pub id : ℕ
  pub tries_are : asked.tries ≡ try_more a p at id u.tries
  pub entry : Entry
  pub there : Memᴰ entry after.cache
  pub word_is : entry.word ≡ t
  pub apex_is : entry.apex ≡ a
  pub entry_name : entry.name ≡ p
  pub entry_kind : entry.kind ≡ u.kind
  pub heard_is : entry.heard ≡ st.now
  pub keeps : (f : Entry) → Memᴰ f (walk_of r st u).words → Memᴰ f after.cache
  pub now_is : after.now ≡ st.now
  pub pending_in : (x : Pending) → Memᴰ x after.pending → Memᴰ x st.pending
  pub pending_least : length after.pending ≤ length st.pending
  pub world_now : (world r (moves ++ es)).now ≡ (world r es).now
  pub world_published : (world r (moves ++ es)).published ≡ (world r es).published
  pub world_copies : (world r (moves ++ es)).copies ≡ (world r es).copies

kept_least : {A : Type 0} (test : A → Bool) (xs : List A) → length (kept test xs) ≤ length xs
unfolding kept
kept_least test [] = omega arith
kept_least {A} test (x ∷ xs) = go (test x) refl (kept_least test xs)
  where
    go : (b : Bool) → test x ≡ b → length (kept test xs) ≤ length xs → length (kept test (x ∷ xs)) ≤ suc (length xs)
    go true e ih = let l = ap length (kept_yes x xs e) in omega arith
      where
        kept_yes : (y : A) (ys : List A) → test y ≡ true → kept test (y ∷ ys) ≡ y ∷ kept test ys
        kept_yes y ys h = cond-true (test y) (y ∷ kept test ys) (kept test ys) h
    go false e ih = let l = ap length (cond-false (test x) (x ∷ kept test xs) (kept test xs) e) in omega arith

-- a last element that is dropped
pub kept_snoc : {A : Type 0} (test : A → Bool) (xs : List A) (x : A) → test x ≡ false → kept test (xs ++ (x ∷ [])) ≡ kept test xs
unfolding kept
kept_snoc test [] x h = cond-false (test x) (x ∷ []) [] h
kept_snoc test (y ∷ ys) x h = ap (λ zs. cond (test y) (y ∷ zs) zs) (kept_snoc test ys x h)

heard_part : (y : Response) (o : Option Query) (w : World) → ((hear y o w).now ≡ w.now) × ((hear y o w).published ≡ w.published) × ((hear y o w).copies ≡ w.copies)
heard_part y None w = (refl, refl, refl)
heard_part y (Some q) w = (refl, refl, refl)

module _ (r : Rules) (st : State) (es : List Event) (j : Joint r st es) (us : List Question) (u : Question) (walks_are : st.walks ≡ us ++ (u ∷ [])) (a p : Name) (s : Server) (t : Word) (c : Copy) (lacks : (walk_of r st u).end ≡ LacksAt a p) (named : Memᴰ s (servers_on r (walk_of r st u).words)) (there : copy_at s a (world r es).copies ≡ Some c) (good : unexpired (world r es).now c ≡ true) (tells-it : tells c.zone p u.kind ≡ Some t) (sound : SoundZone c.zone) (clear : pending_for a p u.kind st.pending ≡ None) (room : length st.pending < 96) (untried : tried_of a p u.tries ≡ None) (few_words : length u.tries < 24) where
  abbrev ss : List Server
  ss = servers_on r (walk_of r st u).words

  abbrev w : World
  w = world r es

  run : Runs r st es
  run = runs r st es j

  stands : Stands st (world r es)
  stands = run.1

  place : (i : ℕ) × (i < length ss) × (get_or ss i [] ≡ s)
  place = index_in ss s named

  drawing : (n : ℕ) × (drawn n w.sent ≡ false) × (n % length ss ≡ place.0)
  drawing = drawable w.sent (length ss) place.0 place.1

  n : ℕ
  n = drawing.0

  sv : Server
  sv = get_or ss (n % length ss) []

  sv_is : sv ≡ s
  unfolding sv n
  sv_is = ap (λ i. get_or ss i []) drawing.2 ∙ place.2

  apex_is : c.zone.apex ≡ a
  apex_is = same_so c.zone.apex a (and_parts (same_label c.server s) (same c.zone.apex a) (first_some (is_copy_at s a) w.copies c there).1).1

  new : may_draw n w ≡ true
  unfolding n
  new = not_from_false (drawn drawing.0 w.sent) drawing.1

  usable : too_many (tried_of a p u.tries) u.tries ≡ false
  usable = ap (λ o. too_many o u.tries) untried ∙ lt-leb max_words (length u.tries) few_words

  wants : standing r st u ≡ Wants a p ss None
  unfolding standing
  wants =
      ap (standing_by r st u (walk_of r st u).words) lacks
      ∙ cond-false (too_many (tried_of a p u.tries) u.tries) (Done Nowhere 0) (lacking a p ss (tried_of a p u.tries) (pending_for a p u.kind st.pending)) usable
      ∙ (λ i. lacking a p ss (untried i) (clear i))
      ∙ cond-false (exhausted ss None) (Done Nowhere 0) (Wants a p ss None) (lt-leb (2 * length ss) 0 (let l = place.1 in omega arith))

  x : Pending
  x = record { query = query_for n sv a p u.kind st.now; place = n % length ss }

  not_pending : is_pending n st.pending ≡ false
  not_pending = none_any (λ (y : Pending). eqb y.query.id n) st.pending (λ y m. ne_eqb y.query.id n (other y m))
    where
      other : (y : Pending) → Memᴰ y st.pending → y.query.id ≡ n → ⊥
      other y m e =
          let q = (inv r es run.0).pending_sent y.query ((stands.pending_is y.query).0 (in_map (λ (z : Pending). z.query) st.pending y m)) in
          any_none (λ (z : Query). eqb z.id n) w.sent (not-true (drawn n w.sent) new) y.query q (eq-eqb y.query.id n e)

  drew : draw r n st ≡ Ok (send r st x)
  unfolding draw x sv
  drew =
      cond-false (is_pending n st.pending) (Err Malformed) _ not_pending
      ∙ cond-false (leb 96 (length st.pending)) (Ok (record { state = st; query = None })) _ (lt-leb 96 (length st.pending) room)
      ∙ ap (λ o. Ok (send_on r n st o)) (ap (last_of (λ v. is_waiting (standing r st v))) walks_are ∙ last_snoc (λ v. is_waiting (standing r st v)) us u (ap is_waiting wants))
      ∙ ap (λ z. Ok (send_for r n st u z)) wants

  abbrev st1 : State
  st1 = (send r st x).state

  abbrev asks : Event
  asks = Asks n sv a p u.kind

  j1 : Joint r st1 (asks ∷ es)
  unfolding x
  j1 = draws j n new (send r st x) drew

  abbrev q1 : Query
  q1 = query_for n sv a p u.kind w.now

  asked : world r (asks ∷ es) ≡ with_query q1 w
  unfolding world sv
  asked =
      cond-true (may_draw n w && may_ask r w.now w.cache a (get_or ss (n % length ss) []) && within a p) (with_query (query_for n (get_or ss (n % length ss) []) a p u.kind w.now) w) w
      (guard r n st es run.0 new stands u a p ss None wants)

  abbrev y : Response
  y = record { id = n; apex = a; word = t }

  says_it : copy_says w.now q1 (copy_at sv a w.copies) ≡ Some t
  says_it =
      ap (copy_says w.now q1) (ap (λ v. copy_at v a w.copies) sv_is ∙ there)
      ∙ cond-true (unexpired w.now c) (tells c.zone p u.kind) None good ∙ tells-it

  responded : world r (Responds q1 ∷ asks ∷ es) ≡ with_responses (y ∷ w.responses) (with_query q1 w)
  unfolding world
  responded =
      ap (λ (v : World). respond q1 (copy_says v.now q1 (copy_at sv a v.copies)) v) asked
      ∙ ap (λ o. respond q1 o (with_query q1 w)) says_it

  j2 : Joint r st1 (Responds q1 ∷ asks ∷ es)
  j2 = others j1 (Responds q1) refl (subst (λ (v : World). Memᴰ q1 v.sent) (sym asked) (Memᴰ.head refl))

  said : Memᴰ y (world r (Responds q1 ∷ asks ∷ es)).responses
  said = subst (λ (v : World). Memᴰ y v.responses) (sym responded) (Memᴰ.head refl)

  found : first (λ (z : Pending). eqb z.query.id n) st1.pending ≡ Some x
  unfolding x
  found =
      first_snoc (λ (z : Pending). eqb z.query.id n) st.pending x
      (λ z m. not_that z m (eqb z.query.id n) refl) (eq-eqb n n refl)
    where
      not_that : (z : Pending) → Memᴰ z st.pending → (b : Bool) → eqb z.query.id n ≡ b → eqb z.query.id n ≡ false
      not_that z m true e = absurd (any_none (λ (v : Pending). eqb v.query.id n) st.pending not_pending z m e)
      not_that z m false e = e

  abbrev made : Entry
  made = entry_for st.now x.query t

  fits_it : misfit x.query t.said ≡ None
  unfolding x
  fits_it = fits_query c.zone sound p u.kind x.query (sym apex_is) refl refl t tells-it

  hears_by : (o : Put) → put r (in_use r st1) made st.cache ≡ o → machine.hear r y st1 ≡ heard_by r st1 x o
  unfolding machine.hear x
  hears_by o e =
      ap (hear_for r st1 y) found
      ∙ cond-true (same a a) (hear_fit r st1 x t (misfit x.query t.said)) (Err WrongApex) (so_same a a refl)
      ∙ ap (hear_fit r st1 x t) fits_it
      ∙ ap (heard_by r st1 x) e

  -- ---- what stays

  abbrev u1 : Question
  u1 = count_try r st x u

  walks1 : st1.walks ≡ map (count_try r st x) us ++ (u1 ∷ [])
  walks1 = ap (map (count_try r st x)) walks_are ∙ map-append (count_try r st x) us (u ∷ [])

  same_walk : walk_of r st1 u1 ≡ walk_of r st u
  same_walk = cond_both _ _ u (λ (v : Question). walk_of r st1 v ≡ walk_of r st u) (λ e. refl) (λ e. refl)

  in_use_lem : (f : Entry) → Memᴰ f (walk_of r st u).words → in_use r st1 f ≡ true
  in_use_lem f m =
      some_any (used_by r st1 f) st1.walks u1 (subst (Memᴰ u1) (sym walks1) (Memᴰ.append_right (map (count_try r st x) us) (Memᴰ.head refl)))
      (some_any (λ (g : Entry). is_key f.apex f.name f.kind g) (walk_of r st1 u1).words f (subst (λ (v : Walk Entry). Memᴰ f v.words) (sym same_walk) m) (key_self f))

  -- the words of the walk are there, and none is the word that it lacks
  of_walk : (f : Entry) → Memᴰ f (walk_of r st u).words → Memᴰ f st.cache × (of_key made f ≡ true → ⊥)
  unfolding x
  of_walk f m =
      let g = found_by entry_said (remembered r st.now st.cache u.kind) 24 [] u.name f m in
      let h = held r st.now st.cache u.kind g.0 g.1 f g.2 in (
        h.there,
        λ k.
            let e = key_so made f k in
            some_none f (sym (lack_none (remembered r st.now st.cache u.kind) 24 [] u.name a p lacks) ∙ recalled r st.now st.cache u.kind a p f stands.keys (record { there = h.there; counting = h.counting; apex_is = e.apex_is; name_is = e.name_is; kind_is = h.kind_is })),
      )

  false_of : (b : Bool) → (b ≡ true → ⊥) → b ≡ false
  false_of true h = absurd (h refl)
  false_of false h = refl

  -- the state after, whichever way the entry was put in
  finish : (fs : List Entry) (o : Bool) (more : List Event) → machine.hear r y st1 ≡ Ok (record { state = keep r st1 x fs; ousted = o }) → hearing r st1 y x ≡ Hears y ∷ more → all_steps more ≡ true → price more ≡ 0 → offers_in more ≡ 0 →
      ((v : World) → ((world r (more ++ (Responds q1 ∷ asks ∷ es))).now ≡ (world r (Responds q1 ∷ asks ∷ es)).now) × ((world r (more ++ (Responds q1 ∷ asks ∷ es))).published ≡ (world r (Responds q1 ∷ asks ∷ es)).published) × ((world r (more ++ (Responds q1 ∷ asks ∷ es))).copies ≡ (world r (Responds q1 ∷ asks ∷ es)).copies)) →
      Memᴰ made fs → ((f : Entry) → Memᴰ f (walk_of r st u).words → Memᴰ f fs) → Had r st es u a p t
  unfolding world x
  finish fs o more h is steps free none part here stays =
      let three = Responds q1 ∷ asks ∷ es in
      let k = part w in
      let v = heard_part y (matching y (world r (more ++ three)).pending) (world r (more ++ three)) in
      let p-both = price_snoc more in
      record {
        moves = Hears y ∷ (more ++ (Responds q1 ∷ asks ∷ []));
        after = keep r st1 x fs;
        joint = subst (λ xs. Joint r (keep r st1 x fs) xs) (ap (λ zs. zs ++ three) is ∙ ap (λ zs. Hears y ∷ zs) (sym (append_assoc more (Responds q1 ∷ asks ∷ []) es))) (hears j2 y said x found (record { state = keep r st1 x fs; ousted = o }) h);
        only_steps = steps_snoc more steps;
        bound = let b = price_snoc more in omega arith;
        offers = let b = offers_snoc more in omega arith;
        front = map (count_try r st1 x) (map (count_try r st x) us);
        asked = count_try r st1 x u1;
        walks_are = ap (map (count_try r st1 x)) walks1 ∙ map-append (count_try r st1 x) (map (count_try r st x) us) (u1 ∷ []);
        ticket_is = ticket_same st1 u1 ∙ ticket_same st u;
        name_is = name_same st1 u1 ∙ name_same st u;
        kind_is = kind_same st1 u1 ∙ kind_same st u;
        at = n % length ss;
        id = n;
        tries_are = tries_once;
        entry = made;
        there = here;
        word_is = refl;
        apex_is = refl;
        entry_name = refl;
        entry_kind = refl;
        heard_is = refl;
        keeps = stays;
        now_is = refl;
        pending_in = λ z m. (kept_in (λ (g : Pending). not (eqb g.query.id n)) st.pending z (subst (Memᴰ z) (kept_snoc (λ (g : Pending). not (eqb g.query.id n)) st.pending x (ap not (eq-eqb n n refl))) m)).0;
        pending_least = let e = ap length (kept_snoc (λ (g : Pending). not (eqb g.query.id n)) st.pending x (ap not (eq-eqb n n refl))) in let l = kept_least (λ (g : Pending). not (eqb g.query.id n)) st.pending in omega arith;
        world_now = ap (λ zs. (world r (Hears y ∷ zs)).now) (append_assoc more (Responds q1 ∷ asks ∷ []) es) ∙ v.0 ∙ k.0 ∙ ap (λ (z : World). z.now) responded;
        world_published = ap (λ zs. (world r (Hears y ∷ zs)).published) (append_assoc more (Responds q1 ∷ asks ∷ []) es) ∙ v.1 ∙ k.1 ∙ ap (λ (z : World). z.published) responded;
        world_copies = ap (λ zs. (world r (Hears y ∷ zs)).copies) (append_assoc more (Responds q1 ∷ asks ∷ []) es) ∙ v.2 ∙ k.2 ∙ ap (λ (z : World). z.copies) responded;
      }
    where
      ticket_same : (z : State) (v : Question) → (count_try r z x v).ticket ≡ v.ticket
      ticket_same z v = cond_both _ _ v (λ (g : Question). g.ticket ≡ v.ticket) (λ e. refl) (λ e. refl)

      name_same : (z : State) (v : Question) → (count_try r z x v).name ≡ v.name
      name_same z v = cond_both _ _ v (λ (g : Question). g.name ≡ v.name) (λ e. refl) (λ e. refl)

      kind_same : (z : State) (v : Question) → (count_try r z x v).kind ≡ v.kind
      kind_same z v = cond_both _ _ v (λ (g : Question). g.kind ≡ v.kind) (λ e. refl) (λ e. refl)

      counted : u1.tries ≡ try_more a p (n % length ss) n u.tries
      counted =
          ap (λ (g : Question). g.tries)
          (cond-true (lacks_for x u.kind (walk_of r st u).end && not (too_many (tried_of a p u.tries) u.tries)) (record { ticket = u.ticket; name = u.name; kind = u.kind; tries = try_more a p (n % length ss) n u.tries }) u
          (and_from (lacks_for x u.kind (walk_of r st u).end) (not (too_many (tried_of a p u.tries) u.tries))
          (ap (lacks_for x u.kind) lacks ∙ and_from (same a a && same p p) (eqb u.kind u.kind) (and_from (same a a) (same p p) (so_same a a refl) (so_same p p refl)) (eq-eqb u.kind u.kind refl)) (not_from_false (too_many (tried_of a p u.tries) u.tries) usable)))

      tries_once : (count_try r st1 x u1).tries ≡ try_more a p (n % length ss) n u.tries
      tries_once = cond_both _ _ u1 (λ (g : Question). g.tries ≡ try_more a p (n % length ss) n u.tries) (λ e. ap (try_more a p (n % length ss) n) counted ∙ again a p (n % length ss) n u.tries) (λ e. counted)

      steps_snoc : (more : List Event) → all_steps more ≡ true → all_steps (more ++ (Responds q1 ∷ asks ∷ [])) ≡ true
      steps_snoc [] h = refl
      steps_snoc (z ∷ zs) h = let k = and_parts _ (all_steps zs) h in and_from _ (all_steps (zs ++ (Responds q1 ∷ asks ∷ []))) k.0 (steps_snoc zs k.1)

      price_snoc : (more : List Event) → price (more ++ (Responds q1 ∷ asks ∷ [])) ≡ price more + 2
      price_snoc [] = refl
      price_snoc (z ∷ zs) = let k = price_snoc zs in omega arith

      offers_snoc : (more : List Event) → offers_in (more ++ (Responds q1 ∷ asks ∷ [])) ≡ offers_in more
      offers_snoc [] = refl
      offers_snoc (z ∷ zs) = let k = offers_snoc zs in omega arith

  pub ask_and_hear : Had r st es u a p t
  unfolding x world
  ask_and_hear = go (put r (in_use r st1) made st.cache) refl
    where
      go : (o : Put) → put r (in_use r st1) made st.cache ≡ o → Had r st es u a p t
      go (Kept fs) e =
          let law = store_laws.kept r (in_use r st1) made st.cache fs stands.keys e in
          finish fs false [] (hears_by (Kept fs) e) (ap (λ z. Hears y ∷ drops st.cache made z) e) refl refl refl (λ v. (refl, refl, refl)) ((law made).1 (inl refl))
          (λ f m. let g = of_walk f m in (law f).1 (inr (g.0, false_of (of_key made f) g.1)))
      go (Ousted i fs) e =
          let law = store_laws.ousted r (in_use r st1) made st.cache fs i stands.keys e in
          let v = get_or st.cache i made in
          finish fs true (Forgets v.apex v.name v.kind ∷ []) (hears_by (Ousted i fs) e) (ap (λ z. Hears y ∷ drops st.cache made z) e) refl refl refl (λ g. (refl, refl, refl)) ((law.2 made).1 (inl refl))
          (λ f m. let g = of_walk f m in
          (law.2 f).1 (inr (
            g.0,
            false_of (of_key (get_or st.cache i made) f) (λ k.
                true≢false (sym (in_use_lem f m) ∙ ap (in_use r st1) (sym (one_of st.cache stands.keys (get_or st.cache i made) f law.0.there g.0 k)) ∙ law.0.unused)),
          )))
      go NoRoom e = absurd (never_full r st1 stands.keys (few_still) made e)
        where
          few_still : length st1.walks ≤ 16
          few_still = let l = length-map st.walks (count_try r st x) in let f = stands.few in omega arith
