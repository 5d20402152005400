-- How long a question waits between one growth of what it has spent and the next.
use Rattle.std.proofs.Common.{◌≡◌, ℕ, suc, ◌+◌, ◌*◌, ◌≤◌, Bool, true, false, not, ◌&&◌, leb, ◌⊎◌, List, [], ◌∷◌, ◌++◌, length, Some, None, Option, is_none, sym, refl, ap, ◌∙◌, subst, inl, inr, ⊎_elim, true≢false, mul-le-mul, le_refl, suc-mul, arith}
use mathlib.Core.List.Memᴰ
use mathlib.Core.List.{Memᴰ}
use Rattle.std.proofs.lemmas.Bool.{cond-true, cond-false, and_cases, not-true, not-false, not_from_false, eq-eqb, eqb-true}
use Rattle.protocol.specs.Lists.{kept}
use Rattle.protocol.specs.Words.{Name, Server}
use Rattle.protocol.specs.World.{Rules, Query, Entry, Event, may_draw, world}
use Rattle.protocol.specs.Walks.{End, Shows, LacksAt, TooLong, Walk, remembered, shown_by}
use Rattle.protocol.proofs.Lists.{some_none, first_some, first_none, kept_in, in_kept}
use Rattle.machine.specs.Machine.{Tried, Question, Pending, State, Nowhere, walk_of, servers_on, is_word, tried_of, too_many, exhausted, is_for, pending_for, is_last, Standing, Done, Awaits, Wants, lacking, standing_by, standing, is_done, lacks_for, count_try, Sent, close_in, is_open}
use Rattle.machine.specs.Bounds.{is_awaiting, most}
use Rattle.machine.specs.Refine.{Joint}
use Rattle.machine.proofs.Bounded.{Used, not_new, new_for, spent_up, may_have}
use Rattle.machine.proofs.Counting.{counts_all, by_counting, counts_none, spent_counts, Tidy}
use Rattle.machine.proofs.Lives.{Sending, counted_by, closing}
use Rattle.machine.proofs.Main.{runs}
use Rattle.machine.proofs.Patient.{Word-of, for_so, so_for, both_for, Few-pending, few_pending, still_in, asked_past, asked_open, one_id, way_heard, lack_of}
use Rattle.machine.proofs.Standings.{wants_so}
use Rattle.machine.proofs.Trying.{more_ids, spent, spent_more}
use Rattle.machine.proofs.Ways.{Cut, same_or_cut, fades, Cached}

-- ---- from one growth to the next

abbrev pub gap : Rules → ℕ
gap r = 2 * r.patience + 1

-- too many words, or each server of a word asked twice
abbrev pub Blocked : Rules → Question → Walk Entry → Name → Name → Type 0
Blocked r u w a p = (too_many (tried_of a p u.tries) u.tries ≡ true) ⊎ (exhausted (servers_on r w.words) (tried_of a p u.tries) ≡ true)

-- a query of others for which it waits was asked before the limit; it didn't come to wait for it later, if it is done
abbrev pub WaitsFor : Rules → ℕ → List Pending → ℕ → Question → Walk Entry → Type 0
WaitsFor r now ps limit u w = (a p : Name) → w.end ≡ LacksAt a p → (z : Pending) → Memᴰ z ps → is_for a p u.kind z ≡ true → is_last (tried_of a p u.tries) z ≡ false → (z.query.asked ≤ limit) × (Blocked r u w a p → now ≤ limit)

-- queries that were counted for it were asked a patience before the limit
abbrev pub CountedBy : Rules → List Pending → ℕ → List Tried → Type 0
CountedBy r ps limit ts = (z : Pending) → Memᴰ z ps → (t : Tried) → Memᴰ t ts → t.id ≡ z.query.id → z.query.asked + r.patience ≤ limit

-- the limit is a patience after the last growth of what it has spent
pub record Waiting (r : Rules) (now : ℕ) (cache : List Entry) (ps : List Pending) (u : Question) (seconds : ℕ) : Type 0 where
  pub start : ℕ
  pub limit : ℕ
  pub time : now ≡ start + seconds
  pub low : limit ≤ now + r.patience
  pub high : limit ≤ start + spent (2 * most r) u.tries * gap r
  pub in_limit : now ≤ limit + r.patience + 1
  pub counted : CountedBy r ps limit u.tries
  pub waits : WaitsFor r now ps limit u (shown_by r now cache u.name u.kind)

gap_more : (m n g : ℕ) → m ≤ n → m * g ≤ n * g
gap_more m n g l = mul-le-mul l (le_refl g)

gap_up : (m n g : ℕ) → m + 1 ≤ n → m * g + g ≤ n * g
gap_up m n g l =
    let a : suc m * g ≤ n * g = mul-le-mul (omega arith) (le_refl g) in
    let b = suc-mul m g in
    omega arith

module _ (r : Rules) (now : ℕ) (cache : List Entry) (ps : List Pending) (u : Question) (n : ℕ) (w : Waiting r now cache ps u n) where
  -- where it has spent one more, a new limit
  pub renewed : (now' : ℕ) (cache' : List Entry) (ps' : List Pending) (u' : Question) (n' : ℕ) → now' ≡ w.start + n' → ((z : Pending) → Memᴰ z ps' → z.query.asked ≤ now') → spent (2 * most r) u.tries + 1 ≤ spent (2 * most r) u'.tries → now' ≤ w.limit + r.patience + 1 → Waiting r now' cache' ps' u' n'
  renewed now' cache' ps' u' n' time past up l =
      let h = w.high in
      let g = gap_up (spent (2 * most r) u.tries) (spent (2 * most r) u'.tries) (gap r) up in
      record {
        start = w.start;
        limit = now' + r.patience;
        time = time;
        low = omega arith;
        high = omega arith;
        in_limit = omega arith;
        counted = λ z m t i e. let a = past z m in omega arith;
        waits = λ a p e z m f g. (let a = past z m in omega arith, λ b. omega arith);
      }

  -- where the limit isn't passed, it stays
  pub at_limit : (cache' : List Entry) (ps' : List Pending) (u' : Question) → ((z : Pending) → Memᴰ z ps' → z.query.asked ≤ now) → spent (2 * most r) u.tries ≤ spent (2 * most r) u'.tries → now ≤ w.limit → CountedBy r ps' w.limit u'.tries → Waiting r now cache' ps' u' n
  at_limit cache' ps' u' past up l counted =
      let h = w.high in
      let g = gap_more (spent (2 * most r) u.tries) (spent (2 * most r) u'.tries) (gap r) up in
      record {
        start = w.start;
        limit = w.limit;
        time = w.time;
        low = omega arith;
        high = omega arith;
        in_limit = omega arith;
        counted = counted;
        waits = λ a p e z m f g. (let a = past z m in omega arith, λ b. l);
      }

-- ---- what a question lacks

last_so : (o : Option Tried) (z : Pending) → is_last o z ≡ true → (t : Tried) × (o ≡ Some t) × (t.id ≡ z.query.id)
last_so None z h = absurd (true≢false (sym h))
last_so (Some t) z h = (t, refl, eqb-true t.id z.query.id h)

not_last : (o : Option Tried) (z : Pending) → is_last o z ≡ false → (t : Tried) → o ≡ Some t → t.id ≡ z.query.id → ⊥
not_last o z h t e i = true≢false (sym (eq-eqb t.id z.query.id i) ∙ sym (ap (λ x. is_last x z) e) ∙ h)

-- a question that waits for a query
pub record AwaitingSo (r : Rules) (st : State) (u : Question) : Type 0 where
  pub apex : Name
  pub name : Name
  pub pending : Pending
  pub lacks : (walk_of r st u).end ≡ LacksAt apex name
  pub may_use : too_many (tried_of apex name u.tries) u.tries ≡ false
  pub there : Memᴰ pending st.pending
  pub for_it : is_for apex name u.kind pending ≡ true
  pub open_to_it : (exhausted (servers_on r (walk_of r st u).words) (tried_of apex name u.tries) && not (is_last (tried_of apex name u.tries) pending)) ≡ false

module _ (r : Rules) (st : State) (u : Question) where
  awaits_by : (a p : Name) (x : Option Pending) → (walk_of r st u).end ≡ LacksAt a p → too_many (tried_of a p u.tries) u.tries ≡ false → pending_for a p u.kind st.pending ≡ x → is_awaiting (lacking a p (servers_on r (walk_of r st u).words) (tried_of a p u.tries) x) ≡ true → AwaitingSo r st u
  awaits_by a p (Some z) e f h g = go (exhausted (servers_on r (walk_of r st u).words) (tried_of a p u.tries) && not (is_last (tried_of a p u.tries) z)) refl
    where
      go : (b : Bool) → (exhausted (servers_on r (walk_of r st u).words) (tried_of a p u.tries) && not (is_last (tried_of a p u.tries) z)) ≡ b → AwaitingSo r st u
      go true i = absurd (true≢false (sym g ∙ ap is_awaiting (cond-true _ (Done Nowhere 0) (Awaits a p) i)))
      go false i =
          let k = first_some (is_for a p u.kind) st.pending z h in
          record { apex = a; name = p; pending = z; lacks = e; may_use = f; there = k.0; for_it = k.1; open_to_it = i }
  awaits_by a p None e f h g = go (exhausted (servers_on r (walk_of r st u).words) (tried_of a p u.tries)) refl
    where
      go : (b : Bool) → exhausted (servers_on r (walk_of r st u).words) (tried_of a p u.tries) ≡ b → AwaitingSo r st u
      go true i = absurd (true≢false (sym g ∙ ap is_awaiting (cond-true (exhausted (servers_on r (walk_of r st u).words) (tried_of a p u.tries)) (Done Nowhere 0) (Wants a p (servers_on r (walk_of r st u).words) (tried_of a p u.tries)) i)))
      go false i = absurd (true≢false (sym g ∙ ap is_awaiting (cond-false (exhausted (servers_on r (walk_of r st u).words) (tried_of a p u.tries)) (Done Nowhere 0) (Wants a p (servers_on r (walk_of r st u).words) (tried_of a p u.tries)) i)))

  awaits_at : (x : End) → (walk_of r st u).end ≡ x → is_awaiting (standing_by r st u (walk_of r st u).words x) ≡ true → AwaitingSo r st u
  awaits_at (Shows o) e h = absurd (true≢false (sym h))
  awaits_at TooLong e h = absurd (true≢false (sym h))
  awaits_at (LacksAt a p) e h = go (too_many (tried_of a p u.tries) u.tries) refl
    where
      rest : Standing
      rest = lacking a p (servers_on r (walk_of r st u).words) (tried_of a p u.tries) (pending_for a p u.kind st.pending)

      go : (b : Bool) → too_many (tried_of a p u.tries) u.tries ≡ b → AwaitingSo r st u
      go true f = absurd (true≢false (sym h ∙ ap is_awaiting (cond-true (too_many (tried_of a p u.tries) u.tries) (Done Nowhere 0) (lacking a p (servers_on r (walk_of r st u).words) (tried_of a p u.tries) (pending_for a p u.kind st.pending)) f)))
      go false f =
          awaits_by a p (pending_for a p u.kind st.pending) e f refl
          (sym (ap is_awaiting (cond-false (too_many (tried_of a p u.tries) u.tries) (Done Nowhere 0) (lacking a p (servers_on r (walk_of r st u).words) (tried_of a p u.tries) (pending_for a p u.kind st.pending)) f)) ∙ h)

  pub awaiting_so : is_awaiting (standing r st u) ≡ true → AwaitingSo r st u
  unfolding standing
  awaiting_so h = awaits_at (walk_of r st u).end refl h

lacks_same : (a b p q : Name) → LacksAt a p ≡ LacksAt b q → (a ≡ b) × (p ≡ q)
lacks_same a b p q e = (cc, cc)

-- ---- queries that run out together

module _ (r : Rules) (st : State) where
  none_by : (xs : List Pending) (u : Question) → ((z : Pending) → Memᴰ z xs → count_try r st z u ≡ u) → counted_by r st xs u ≡ u
  unfolding counted_by
  none_by [] u h = refl
  none_by (x ∷ xs) u h = ap (counted_by r st xs) (h x (Memᴰ.head refl)) ∙ none_by xs u (λ z m. h z (Memᴰ.tail m))

  name_by : (xs : List Pending) (u : Question) → (counted_by r st xs u).name ≡ u.name
  unfolding counted_by
  name_by [] u = refl
  name_by (x ∷ xs) u = name_by xs (count_try r st x u) ∙ by_counting r st x u (λ v. v.name ≡ u.name) refl (λ f. refl)

  kind_by : (xs : List Pending) (u : Question) → (counted_by r st xs u).kind ≡ u.kind
  unfolding counted_by
  kind_by [] u = refl
  kind_by (x ∷ xs) u = kind_by xs (count_try r st x u) ∙ by_counting r st x u (λ v. v.kind ≡ u.kind) refl (λ f. refl)

  -- the ids of tries are those of before, and of these
  ids_by : (xs : List Pending) (u : Question) (t : Tried) → Memᴰ t (counted_by r st xs u).tries → Memᴰ t u.tries ⊎ ((c : Pending) × Memᴰ c xs × (t.id ≡ c.query.id))
  unfolding counted_by
  ids_by [] u t m = inl m
  ids_by (x ∷ xs) u t m =
      ⊎_elim
      (λ i. ⊎_elim (λ old. inl old) (λ new. inr (x, Memᴰ.head refl, new))
      (by_counting r st x u (λ v. Memᴰ t v.tries → Memᴰ t u.tries ⊎ (t.id ≡ x.query.id)) (λ o. inl o) (λ f. more_ids x.query.apex x.query.name x.place x.query.id u.tries t) i))
      (λ (i : (c : Pending) × Memᴰ c xs × (t.id ≡ c.query.id)). inr (i.0, Memᴰ.tail i.1, i.2)) (ids_by xs (count_try r st x u) t m)

-- the one that a question waits for is among them, and was not counted
module _ (r : Rules) (small : length r.roots ≤ 32) (st : State) (es : List Event) (j : Joint r st es) (u : Question) (a p : Name) (lacks : (walk_of r st u).end ≡ LacksAt a p) (may_use : too_many (tried_of a p u.tries) u.tries ≡ false) (left : exhausted (servers_on r (walk_of r st u).words) (tried_of a p u.tries) ≡ false) (that : Pending) (for_it : is_for a p u.kind that ≡ true) (last : is_last (tried_of a p u.tries) that ≡ false) where
  spent_by : (xs : List Pending) → Memᴰ that xs → ((z : Pending) → Memᴰ z xs → lacks_for z u.kind (walk_of r st u).end ≡ true → z ≡ that) → spent (2 * most r) u.tries + 1 ≤ spent (2 * most r) (counted_by r st xs u).tries
  unfolding counted_by
  spent_by [] m only = absurd (Memᴰ.not-nil m)
  spent_by (x ∷ xs) m only = go (lacks_for x u.kind (walk_of r st u).end) refl (λ i. spent_by xs i (λ z k. only z (Memᴰ.tail k)))
    where
      go : (b : Bool) → lacks_for x u.kind (walk_of r st u).end ≡ b → (Memᴰ that xs → spent (2 * most r) u.tries + 1 ≤ spent (2 * most r) (counted_by r st xs u).tries) → spent (2 * most r) u.tries + 1 ≤ spent (2 * most r) (counted_by r st xs (count_try r st x u)).tries
      go true e ih =
          let is = only x (Memᴰ.head refl) e in
          let up = spent_up r small st es j u a p lacks may_use left x (subst (λ z. is_for a p u.kind z ≡ true) (sym is) for_it) (not_last (tried_of a p u.tries) x (subst (λ z. is_last (tried_of a p u.tries) z ≡ false) (sym is) last)) in
          let rest = spent_counts (2 * most r) r st (λ z. Unit {0}) (count_try r st x u) (counted_by r st xs (count_try r st x u)) (counts_all r st (λ z. Unit {0}) xs (λ z k. tt) (count_try r st x u)) in
          omega arith
      go false e ih =
          subst (λ v. spent (2 * most r) u.tries + 1 ≤ spent (2 * most r) (counted_by r st xs v).tries) (sym (counts_none r st x u e))
          (ih (⊎_elim (λ i. absurd (true≢false (sym (ap (lacks_for that u.kind) lacks ∙ for_it) ∙ ap (λ z. lacks_for z u.kind (walk_of r st u).end) i ∙ e))) (λ k. k) (Memᴰ.cases_cons m)))

-- ---- each call

module _ (r : Rules) (small : length r.roots ≤ 32) (st : State) (es : List Event) (j : Joint r st es) (u : Question) (under_way : Memᴰ u st.walks) (tidy : Tidy (Used r es) u.tries) (n : ℕ) (w : Waiting r st.now st.cache st.pending u n) where
  abbrev ss : List Server
  ss = servers_on r (walk_of r st u).words

  few : Few-pending r st.now st.cache st.pending
  few = few_pending r st es j

  -- two queries that are pending for one word are one
  same_pending : (a p : Name) (x z : Pending) → Memᴰ x st.pending → Memᴰ z st.pending → is_for a p u.kind x ≡ true → is_for a p u.kind z ≡ true → x ≡ z
  same_pending a p x z m i h g = few.one x z m i (both_for a p u.kind x z h g)

  -- its last query was counted for it a patience before the limit
  last_by : (a p : Name) (z : Pending) → Memᴰ z st.pending → is_last (tried_of a p u.tries) z ≡ true → z.query.asked + r.patience ≤ w.limit
  last_by a p z m h =
      let t = last_so (tried_of a p u.tries) z h in
      w.counted z m t.0 (first_some (is_word a p) u.tries t.0 t.1).0 t.2

  -- ---- a response

  module _ (p : Pending) (there : Memᴰ p st.pending) (made : Entry) (apex_is : made.apex ≡ p.query.apex) (name_is : made.name ≡ p.query.name) (kind_is : made.kind ≡ p.query.kind) (cs : List Entry) (c : Cached r st made cs) where
    abbrev After : Question → Type 0
    After v = Waiting r st.now cs (close_in p.query.id st.pending) v n

    past_closed : (z : Pending) → Memᴰ z (close_in p.query.id st.pending) → z.query.asked ≤ st.now
    past_closed z m = asked_past r st es j z (still_in p.query.id st.pending z m).0

    spent_try : spent (2 * most r) u.tries ≤ spent (2 * most r) (count_try r st p u).tries
    spent_try = by_counting r st p u (λ v. spent (2 * most r) u.tries ≤ spent (2 * most r) v.tries) (omega arith) (λ f. spent_more (2 * most r) p.query.apex p.query.name p.place p.query.id u.tries)

    counted_closed : CountedBy r (close_in p.query.id st.pending) w.limit (count_try r st p u).tries
    counted_closed z m t i e =
        let k = still_in p.query.id st.pending z m in
        ⊎_elim (λ old. w.counted z k.0 t old e) (λ new. absurd (k.1 (sym e ∙ new)))
        (by_counting r st p u (λ v. Memᴰ t v.tries → Memᴰ t u.tries ⊎ (t.id ≡ p.query.id)) (λ o. inl o) (λ f. more_ids p.query.apex p.query.name p.place p.query.id u.tries t) i)

    -- the word that it lacks
    heard_lacked : (a q : Name) → (walk_of r st u).end ≡ LacksAt a q → is_for a q u.kind p ≡ true → After (count_try r st p u)
    heard_lacked a q lacks for_it = go (is_last (tried_of a q u.tries) p) refl (too_many (tried_of a q u.tries) u.tries) refl (exhausted ss (tried_of a q u.tries)) refl
      where
        stays_at : st.now ≤ w.limit → After (count_try r st p u)
        stays_at l = at_limit r st.now st.cache st.pending u n w cs (close_in p.query.id st.pending) (count_try r st p u) past_closed spent_try l counted_closed

        go : (b : Bool) → is_last (tried_of a q u.tries) p ≡ b → (d : Bool) → too_many (tried_of a q u.tries) u.tries ≡ d → (e : Bool) → exhausted ss (tried_of a q u.tries) ≡ e → After (count_try r st p u)
        go true f d g e h = let x = last_by a q p there f in let y = asked_open r st es j p there in stays_at (omega arith)
        go false f true g e h = stays_at ((w.waits a q lacks p there for_it f).1 (inl g))
        go false f false g true h = stays_at ((w.waits a q lacks p there for_it f).1 (inr h))
        go false f false g false h =
            let up = spent_up r small st es j u a q lacks g h p for_it (not_last (tried_of a q u.tries) p f) in
            let l = w.in_limit in
            renewed r st.now st.cache st.pending u n w st.now cs (close_in p.query.id st.pending) (count_try r st p u) n w.time past_closed (omega arith) (omega arith)

    -- another word: the way is the same
    module _ (other : lacks_for p u.kind (walk_of r st u).end ≡ false) where
      heard_other : After u
      heard_other =
          let same = way_heard r st es j u under_way p there made apex_is name_is kind_is cs c other in
          record {
            start = w.start;
            limit = w.limit;
            time = w.time;
            low = w.low;
            high = w.high;
            in_limit = w.in_limit;
            counted = λ z m. w.counted z (still_in p.query.id st.pending z m).0;
            waits = subst (WaitsFor r st.now (close_in p.query.id st.pending) w.limit u) (sym same) (λ a q e z m. w.waits a q e z (still_in p.query.id st.pending z m).0);
          }

    pub waits_heard : After (count_try r st p u)
    waits_heard = go (lacks_for p u.kind (walk_of r st u).end) refl
      where
        go : (b : Bool) → lacks_for p u.kind (walk_of r st u).end ≡ b → After (count_try r st p u)
        go true e = let l = lack_of p u.kind (walk_of r st u).end e in heard_lacked l.0 l.1 l.2 l.3
        go false e = subst After (sym (counts_none r st p u e)) (heard_other e)

  -- ---- a query

  module _ (i : ℕ) (may : may_draw i (world r es) ≡ true) (s : Sent) (k : Sending r i st s) (under : is_none (is_done (standing r st u)) ≡ true) where
    abbrev p : Pending
    p = k.pending

    abbrev Drew : Question → Type 0
    Drew v = Waiting r st.now st.cache (st.pending ++ (k.pending ∷ [])) v n

    id_is : k.pending.query.id ≡ i
    id_is = ap (λ (q : Query). q.id) k.query_is

    asked_now : k.pending.query.asked ≡ st.now
    asked_now = ap (λ (q : Query). q.asked) k.query_is

    parts : (x : Pending) → Memᴰ x (st.pending ++ (k.pending ∷ [])) → Memᴰ x st.pending ⊎ (x ≡ k.pending)
    parts x m = ⊎_elim (λ i. inl i) (λ i. inr (Memᴰ.eq_of_singleton i)) (Memᴰ.append_cases st.pending m)

    past_drawn : (z : Pending) → Memᴰ z (st.pending ++ (k.pending ∷ [])) → z.query.asked ≤ st.now
    past_drawn z m = ⊎_elim (λ i. asked_past r st es j z i) (λ i. let a = ap (λ (x : Pending). x.query.asked) i in let b = asked_now in omega arith) (parts z m)

    -- for the word that it lacks: it wants one, since none is pending
    none_there : (a q : Name) → is_for a q u.kind k.pending ≡ true → (z : Pending) → Memᴰ z st.pending → is_for a q u.kind z ≡ true → ⊥
    none_there a q f z m h =
        let word = both_for a q u.kind k.pending z f h in
        let own : Word-of k.apex k.name k.spot.asked.kind k.pending = record { apex_is = ap (λ (q : Query). q.apex) k.query_is; name_is = ap (λ (q : Query). q.name) k.query_is; kind_is = ap (λ (q : Query). q.kind) k.query_is } in
        first_none (is_for k.apex k.name k.spot.asked.kind) st.pending (wants_so r st k.spot.asked k.apex k.name k.servers k.try k.wanted).not_pending z m
        (so_for k.apex k.name k.spot.asked.kind z (record { apex_is = word.apex_is ∙ own.apex_is; name_is = word.name_is ∙ own.name_is; kind_is = word.kind_is ∙ own.kind_is }))

    drew_lacked : (a q : Name) → (walk_of r st u).end ≡ LacksAt a q → is_for a q u.kind k.pending ≡ true → Drew (count_try r st k.pending u)
    drew_lacked a q lacks for_it = go (standing r st u) refl
      where
        go : (x : Standing) → standing r st u ≡ x → Drew (count_try r st k.pending u)
        go (Done x m) e = absurd (true≢false (sym under ∙ ap (λ y. is_none (is_done y)) e))
        go (Awaits b c) e =
            let x = awaiting_so r st u (ap is_awaiting e) in
            let same = lacks_same x.apex a x.name q (sym x.lacks ∙ lacks) in
            absurd (none_there a q for_it x.pending x.there (subst (λ d. is_for d q u.kind x.pending ≡ true) same.0 (subst (λ d. is_for x.apex d u.kind x.pending ≡ true) same.1 x.for_it)))
        go (Wants b c ts o) e =
            let h = may_have r st u b c ts o e in
            let same = lacks_same a b q c (sym lacks ∙ h.lacks) in
            let for2 = subst (λ d. is_for d c u.kind k.pending ≡ true) same.0 (subst (λ d. is_for a d u.kind k.pending ≡ true) same.1 for_it) in
            let up = spent_up r small st es j u b c h.lacks h.may_use h.left k.pending for2 (new_for r es u.tries tidy i may k.pending id_is b c) in
            let l = w.in_limit in
            renewed r st.now st.cache st.pending u n w st.now st.cache (st.pending ++ (k.pending ∷ [])) (count_try r st k.pending u) n w.time past_drawn (omega arith) (omega arith)

    drew_other : lacks_for k.pending u.kind (walk_of r st u).end ≡ false → Drew u
    drew_other other =
        record {
          start = w.start;
          limit = w.limit;
          time = w.time;
          low = w.low;
          high = w.high;
          in_limit = w.in_limit;
          counted = λ z m t i e. ⊎_elim (λ a. w.counted z a t i e) (λ a. absurd (new t i (e ∙ ap (λ (x : Pending). x.query.id) a ∙ id_is))) (parts z m);
          waits = λ a q e z m f. ⊎_elim (λ b. w.waits a q e z b f) (λ b. absurd (true≢false (sym (subst (λ x. is_for a q u.kind x ≡ true) b f) ∙ sym (ap (lacks_for k.pending u.kind) e) ∙ other))) (parts z m);
        }
      where
        new : (t : Tried) → Memᴰ t u.tries → t.id ≡ i → ⊥
        new t m e = let x = tidy.ids t m in not_new r es i may (x.0, x.1, x.2 ∙ e)

    pub waits_drawn : Drew (count_try r st k.pending u)
    waits_drawn = go (lacks_for k.pending u.kind (walk_of r st u).end) refl
      where
        go : (b : Bool) → lacks_for k.pending u.kind (walk_of r st u).end ≡ b → Drew (count_try r st k.pending u)
        go true e = let l = lack_of k.pending u.kind (walk_of r st u).end e in drew_lacked l.0 l.1 l.2 l.3
        go false e = subst Drew (sym (counts_none r st k.pending u e)) (drew_other e)

  -- ---- a second passes

  module _ (a : AwaitingSo r st u) where
    abbrev later : Question
    later = counted_by r st (closing r st) u

    abbrev open_later : List Pending
    open_later = kept (is_open r (st.now + 1)) st.pending

    abbrev Ticked : Question → Type 0
    Ticked v = Waiting r (st.now + 1) st.cache (kept (is_open r (st.now + 1)) st.pending) v (n + 1)

    still_open : (z : Pending) → Memᴰ z open_later → Memᴰ z st.pending × (is_open r (st.now + 1) z ≡ true)
    still_open z m = kept_in (is_open r (st.now + 1)) st.pending z m

    closes : (z : Pending) → Memᴰ z (closing r st) → Memᴰ z st.pending × (is_open r (st.now + 1) z ≡ false)
    closes z m = let k = kept_in (λ x. not (is_open r (st.now + 1) x)) st.pending z m in (k.0, not-true (is_open r (st.now + 1) z) k.1)

    -- only the one that it waits for can count
    only_that : (z : Pending) → Memᴰ z st.pending → lacks_for z u.kind (walk_of r st u).end ≡ true → z ≡ a.pending
    only_that z m h = same_pending a.apex a.name z a.pending m a.there (sym (ap (lacks_for z u.kind) a.lacks) ∙ h) a.for_it

    -- if it stays open, none counts
    none_counts : is_open r (st.now + 1) a.pending ≡ true → later ≡ u
    none_counts stays = none_by r st (closing r st) u (λ z m. by z (closes z m) (lacks_for z u.kind (walk_of r st u).end) refl)
      where
        by : (z : Pending) → Memᴰ z st.pending × (is_open r (st.now + 1) z ≡ false) → (b : Bool) → lacks_for z u.kind (walk_of r st u).end ≡ b → count_try r st z u ≡ u
        by z k true e = absurd (true≢false (sym stays ∙ sym (ap (is_open r (st.now + 1)) (only_that z k.0 e)) ∙ k.1))
        by z k false e = counts_none r st z u e

    spent_later : spent (2 * most r) u.tries ≤ spent (2 * most r) later.tries
    spent_later = spent_counts (2 * most r) r st (λ p. Unit {0}) u later (counts_all r st (λ p. Unit {0}) (closing r st) (λ p m. tt) u)

    counted_later : CountedBy r open_later w.limit later.tries
    counted_later z m t i e =
        let k = still_open z m in
        ⊎_elim (λ old. w.counted z k.0 t old e)
        (λ (new : (c : Pending) × Memᴰ c (closing r st) × (t.id ≡ c.query.id)).
        let x = closes new.0 new.1 in
        let q = one_id r st es j z new.0 k.0 x.0 (sym e ∙ new.2) in
        absurd (true≢false (sym k.1 ∙ ap (λ (y : Query). leb (st.now + 1) (y.asked + r.patience)) q ∙ x.1)))
        (ids_by r st (closing r st) u t i)

    -- it was not late
    in_time_lem : st.now ≤ w.limit + r.patience
    in_time_lem = go (is_last (tried_of a.apex a.name u.tries) a.pending) refl
      where
        go : (b : Bool) → is_last (tried_of a.apex a.name u.tries) a.pending ≡ b → st.now ≤ w.limit + r.patience
        go true e = let x = last_by a.apex a.name a.pending a.there e in let y = asked_open r st es j a.pending a.there in omega arith
        go false e = let x = (w.waits a.apex a.name a.lacks a.pending a.there a.for_it e).0 in let y = asked_open r st es j a.pending a.there in omega arith

    not_spent : is_last (tried_of a.apex a.name u.tries) a.pending ≡ false → exhausted ss (tried_of a.apex a.name u.tries) ≡ false
    not_spent last =
        ⊎_elim (λ e. e) (λ e. absurd (true≢false (sym (not-false (is_last (tried_of a.apex a.name u.tries) a.pending) e) ∙ last)))
        (and_cases (exhausted ss (tried_of a.apex a.name u.tries)) (not (is_last (tried_of a.apex a.name u.tries) a.pending)) a.open_to_it)

    -- the walk a second later
    abbrev next_walk : Question → Walk Entry
    next_walk v = shown_by r (st.now + 1) st.cache v.name v.kind

    abbrev At : Pending → Question → Name → Name → Type 0
    At z v c q = is_last (tried_of c q v.tries) z ≡ false → (z.query.asked ≤ w.limit) × (Blocked r v (next_walk v) c q → st.now + 1 ≤ w.limit)

    -- where it waits as before
    as_before : next_walk u ≡ walk_of r st u → (z : Pending) → Memᴰ z st.pending → is_for a.apex a.name u.kind z ≡ true → At z u a.apex a.name
    as_before same z m h last =
        let is = same_pending a.apex a.name z a.pending m a.there h a.for_it in
        let last2 : is_last (tried_of a.apex a.name u.tries) a.pending ≡ false = ap (is_last (tried_of a.apex a.name u.tries)) (sym is) ∙ last in (
          (w.waits a.apex a.name a.lacks z m h last).0,
          λ b. absurd (⊎_elim (λ x. true≢false (sym x ∙ a.may_use)) (λ x. true≢false (sym x ∙ ap (λ (y : Walk Entry). exhausted (servers_on r y.words) (tried_of a.apex a.name u.tries)) same ∙ not_spent last2)) b),
        )

    -- as before, or cut short where none is pending
    waits_later : WaitsFor r (st.now + 1) open_later w.limit later (next_walk later)
    waits_later c q e z m h = by (same_or_cut (remembered r st.now st.cache u.kind) (remembered r (st.now + 1) st.cache u.kind) (fades r st.now st.cache u.kind (runs r st es j).1.keys) 24 [] u.name)
      where
        k : Memᴰ z st.pending × (is_open r (st.now + 1) z ≡ true)
        k = still_open z m

        name_is : later.name ≡ u.name
        name_is = name_by r st (closing r st) u

        kind_is : later.kind ≡ u.kind
        kind_is = kind_by r st (closing r st) u

        end_is : (next_walk u).end ≡ LacksAt c q
        end_is = (λ i. (shown_by r (st.now + 1) st.cache (sym name_is i) (sym kind_is i)).end) ∙ e

        for_it : is_for c q u.kind z ≡ true
        for_it = subst (λ d. is_for c q d z ≡ true) kind_is h

        by : (next_walk u ≡ walk_of r st u) ⊎ Cut (remembered r st.now st.cache u.kind) (remembered r (st.now + 1) st.cache u.kind) 24 [] u.name → At z later c q
        by (inl same) =
            let at = lacks_same a.apex c a.name q (sym a.lacks ∙ sym (ap (λ (x : Walk Entry). x.end) same) ∙ end_is) in
            let there = subst (λ d. is_for d q u.kind a.pending ≡ true) at.0 (subst (λ d. is_for a.apex d u.kind a.pending ≡ true) at.1 a.for_it) in
            let is = same_pending c q z a.pending k.0 a.there for_it there in
            let for_that = subst (λ x. is_for a.apex a.name u.kind x ≡ true) (sym is) a.for_it in
            subst (λ v. At z v c q) (sym (none_counts (sym (ap (is_open r (st.now + 1)) is) ∙ k.1))) (subst (λ d. At z u d q) at.0 (subst (λ d. At z u a.apex d) at.1 (as_before same z k.0 for_that)))
        by (inr cut) =
            let at = lacks_same cut.0 c cut.1 q (sym cut.3 ∙ end_is) in
            let word = for_so c q u.kind z for_it in
            absurd (some_none cut.2 (sym (few.unknown z k.0) ∙ (λ i. remembered r st.now st.cache (word.kind_is i) (word.apex_is i) (word.name_is i)) ∙ (λ i. remembered r st.now st.cache u.kind (sym at.0 i) (sym at.1 i)) ∙ cut.4))

    -- the one that it waits for runs out, and counts
    runs_out : is_open r (st.now + 1) a.pending ≡ false → is_last (tried_of a.apex a.name u.tries) a.pending ≡ false → spent (2 * most r) u.tries + 1 ≤ spent (2 * most r) later.tries
    runs_out shut last =
        spent_by r small st es j u a.apex a.name a.lacks a.may_use (not_spent last) a.pending a.for_it last (closing r st)
        (in_kept (λ x. not (is_open r (st.now + 1) x)) st.pending a.pending a.there (not_from_false (is_open r (st.now + 1) a.pending) shut)) (λ z m. only_that z (closes z m).0)

    past_later : (z : Pending) → Memᴰ z open_later → z.query.asked ≤ st.now + 1
    past_later z m = let p = asked_past r st es j z (still_open z m).0 in omega arith

    waits_on : Ticked later
    waits_on =
        let l = in_time_lem in
        let t = w.time in
        let h = w.high in
        let b = w.low in
        let g = gap_more (spent (2 * most r) u.tries) (spent (2 * most r) later.tries) (gap r) spent_later in
        record {
          start = w.start;
          limit = w.limit;
          time = omega arith;
          low = omega arith;
          high = omega arith;
          in_limit = omega arith;
          counted = counted_later;
          waits = waits_later;
        }

    pub waits_ticked : Ticked later
    waits_ticked = go (is_open r (st.now + 1) a.pending) refl (is_last (tried_of a.apex a.name u.tries) a.pending) refl
      where
        go : (b : Bool) → is_open r (st.now + 1) a.pending ≡ b → (d : Bool) → is_last (tried_of a.apex a.name u.tries) a.pending ≡ d → Ticked later
        go false e false f = let l = in_time_lem in let t = w.time in renewed r st.now st.cache st.pending u n w (st.now + 1) st.cache open_later later (n + 1) (omega arith) past_later (runs_out e f) (omega arith)
        go true e d f = waits_on
        go false e true f = waits_on
