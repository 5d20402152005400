-- What counting a query makes of a question, and what a call counts for it.
use Rattle.std.proofs.Common.{◌≡◌, ℕ, ◌+◌, ◌≤◌, Bool, true, false, not, ◌&&◌, eqb, ◌⊎◌, List, [], ◌∷◌, length, sym, refl, ap, ◌∙◌, subst, inl, inr, ⊎_elim, true≢false, arith}
use mathlib.Core.List.Memᴰ
use mathlib.Core.List.{Memᴰ}
use Rattle.std.proofs.lemmas.Bool.{cond-true, cond-false, and_parts, and_from, not-true, not_from_false}
use Rattle.meaning.specs.Says.{same}
use Rattle.meaning.proofs.Rules.{same_so}
use Rattle.protocol.specs.Words.{Name}
use Rattle.protocol.specs.World.{Rules, Event}
use Rattle.protocol.specs.Walks.{LacksAt}
use Rattle.protocol.proofs.Lists.{first_some, kept_in}
use Rattle.machine.specs.Machine.{Tried, Question, Pending, State, walk_of, tried_of, too_many, is_for, try_more, lacks_for, count_try, Sent, is_open, tick}
use Rattle.machine.specs.Bounds.{Call, to_begin, to_settle, to_draw, to_hear, to_tick, by_others, Spot, all_of, Stays, one_a_word, NoLess}
use Rattle.machine.proofs.Lives.{NoneSent, Sending, drew_so, counted_by, closing, asked_begin, asked_settle, asked_idle, asked_draw, asked_hear, asked_tick, asked_others}
use Rattle.machine.proofs.Trying.{more_keeps, more_length, more_one, more_ids, spent, spent_more}

-- ---- one query

abbrev pub with_tries : List Tried → Question → Question
with_tries ts u = record { ticket = u.ticket; name = u.name; kind = u.kind; tries = ts }

abbrev pub tries_after : Pending → Question → List Tried
tries_after p u = try_more p.query.apex p.query.name p.place p.query.id u.tries

-- it counts for a question that lacks its word, and may use one more
pub data Counting (r : Rules) (st : State) (p : Pending) (u : Question) : Type 0 where
  counts_not : (lacks_for p u.kind (walk_of r st u).end && not (too_many (tried_of p.query.apex p.query.name u.tries) u.tries)) ≡ false → count_try r st p u ≡ u → Counting r st p u
  counts_so : lacks_for p u.kind (walk_of r st u).end ≡ true → too_many (tried_of p.query.apex p.query.name u.tries) u.tries ≡ false → count_try r st p u ≡ with_tries (tries_after p u) u → Counting r st p u

pub counting : (r : Rules) (st : State) (p : Pending) (u : Question) → Counting r st p u
counting r st p u = go (lacks_for p u.kind (walk_of r st u).end && not (too_many (tried_of p.query.apex p.query.name u.tries) u.tries)) refl
  where
    go : (b : Bool) → (lacks_for p u.kind (walk_of r st u).end && not (too_many (tried_of p.query.apex p.query.name u.tries) u.tries)) ≡ b → Counting r st p u
    go true e =
        let h = and_parts (lacks_for p u.kind (walk_of r st u).end) (not (too_many (tried_of p.query.apex p.query.name u.tries) u.tries)) e in
        counts_so h.0 (not-true (too_many (tried_of p.query.apex p.query.name u.tries) u.tries) h.1) (cond-true _ (with_tries (tries_after p u) u) u e)
    go false e = counts_not e (cond-false _ (with_tries (tries_after p u) u) u e)

-- whatever holds of a question as it was, and with one more try where it may have it
pub by_counting : (r : Rules) (st : State) (p : Pending) (u : Question) (P : Question → Type 0) → P u → (too_many (tried_of p.query.apex p.query.name u.tries) u.tries ≡ false → P (with_tries (tries_after p u) u)) → P (count_try r st p u)
by_counting r st p u P was more = go (counting r st p u)
  where
    go : Counting r st p u → P (count_try r st p u)
    go (counts_not e h) = subst P (sym h) was
    go (counts_so l f h) = subst P (sym h) (more f)

-- ---- some queries

-- a question after some queries were counted for it, or not
pub data Counts (r : Rules) (st : State) (P : Pending → Type 0) (u : Question) : Question → Type 0 where
  as_was : Counts r st P u u
  one_query : {v : Question} → (p : Pending) → P p → Counts r st P u v → Counts r st P u (count_try r st p v)

module _ (r : Rules) (st : State) (P : Pending → Type 0) where
  joined : {u v w : Question} → Counts r st P u v → Counts r st P v w → Counts r st P u w
  joined h as_was = h
  joined h (one_query p g k) = one_query p g (joined h k)

  pub counts_all : (xs : List Pending) → ((p : Pending) → Memᴰ p xs → P p) → (u : Question) → Counts r st P u (counted_by r st xs u)
  unfolding counted_by
  counts_all [] h u = as_was
  counts_all (x ∷ xs) h u = joined (one_query x (h x (Memᴰ.head refl)) as_was) (counts_all xs (λ p m. h p (Memᴰ.tail m)) (count_try r st x u))

-- ---- what no query takes away

less_self : (u : Question) → NoLess u u
less_self u = record { ticket_is = refl; name_is = refl; kind_is = refl; words = λ a p h. h; counts = λ a p. omega arith }

less_one : (r : Rules) (st : State) (p : Pending) (u v : Question) → NoLess u v → NoLess u (count_try r st p v)
less_one r st p u v h =
    by_counting r st p v (NoLess u) h
    (λ f. record {
      ticket_is = h.ticket_is;
      name_is = h.name_is;
      kind_is = h.kind_is;
      words = λ a n e. h.words a n ((more_keeps p.query.apex p.query.name p.place p.query.id a n v.tries).0 e);
      counts = λ a n. let k = (more_keeps p.query.apex p.query.name p.place p.query.id a n v.tries).1 in let l = h.counts a n in omega arith;
    })

pub less_counts : (r : Rules) (st : State) (P : Pending → Type 0) (u v : Question) → Counts r st P u v → NoLess u v
less_counts r st P u v as_was = less_self u
less_counts r st P u v (one_query {v = w} p h k) = less_one r st p u w (less_counts r st P u w k)

pub spent_counts : (most : ℕ) (r : Rules) (st : State) (P : Pending → Type 0) (u v : Question) → Counts r st P u v → spent most u.tries ≤ spent most v.tries
spent_counts most r st P u v as_was = omega arith
spent_counts most r st P u v (one_query {v = w} p h k) =
    let l = spent_counts most r st P u w k in
    by_counting r st p w (λ z. spent most u.tries ≤ spent most z.tries) l
    (λ f. let m = spent_more most p.query.apex p.query.name p.place p.query.id w.tries in omega arith)

-- few words, each once, by ids of which something is known
pub record Tidy (Q : ℕ → Type 0) (ts : List Tried) : Type 0 where
  pub few : length ts ≤ 24
  pub one : one_a_word ts ≡ true
  pub ids : (t : Tried) → Memᴰ t ts → Q t.id

pub tidy_none : (Q : ℕ → Type 0) → Tidy Q []
unfolding one_a_word
tidy_none Q = record { few = omega arith; one = refl; ids = λ t m. absurd (Memᴰ.not-nil m) }

pub tidy_counts : (Q : ℕ → Type 0) (r : Rules) (st : State) (u v : Question) → Counts r st (λ p. Q p.query.id) u v → Tidy Q u.tries → Tidy Q v.tries
tidy_counts Q r st u v as_was t = t
tidy_counts Q r st u v (one_query {v = w} p h k) t =
    let g = tidy_counts Q r st u w k t in
    by_counting r st p w (λ z. Tidy Q z.tries) g
    (λ f. record {
      few = more_length p.query.apex p.query.name p.place p.query.id w.tries f g.few;
      one = more_one p.query.apex p.query.name p.place p.query.id w.tries g.one;
      ids = λ x m. ⊎_elim (λ n. g.ids x n) (λ e. subst Q (sym e) h) (more_ids p.query.apex p.query.name p.place p.query.id w.tries x m);
    })

-- ---- what a call counts

module _ (r : Rules) (st : State) (x : Spot) (at : st.walks ≡ all_of x) (es : List Event) (y : Spot) (P : Pending → Type 0) where
  abbrev Became : Question → Type 0
  Became v = Counts r st P x.asked v

  -- queries pending before the call, or after it
  pub became : (st' : State) (es' : List Event) (c : Call r st es st' es') → Stays r st es st' es' c x y → ((p : Pending) → Memᴰ p st.pending ⊎ Memᴰ p st'.pending → P p) → Counts r st P x.asked y.asked
  unfolding tick
  became st' es' (to_begin v) s h = subst Became (sym (asked_begin r st x at es y v s)) as_was
  became st' es' to_settle s h = subst Became (sym (asked_settle r st x at es y s)) as_was
  became st' es' (to_draw n may t e) s h = go (drew_so r n st t e)
    where
      go : NoneSent st t ⊎ Sending r n st t → Counts r st P x.asked y.asked
      go (inl k) = subst Became (sym (asked_idle r st x at es y n may t e k s)) as_was
      go (inr k) =
          subst Became (sym (asked_draw r st x at es y n may t e k s))
          (one_query k.pending (h k.pending (inr (subst (λ (z : Sent). Memᴰ k.pending z.state.pending) (sym k.sent_is) (Memᴰ.append_right st.pending (Memᴰ.head refl))))) as_was)
  became st' es' (to_hear z m p f g e) s h =
      subst Became (sym (asked_hear r st x at es y z m p f g e s)) (one_query p (h p (inl (first_some (λ (q : Pending). eqb q.query.id z.id) st.pending p f).0)) as_was)
  became st' es' to_tick s h =
      subst Became (sym (asked_tick r st x at es y s))
      (counts_all r st P (closing r st) (λ p m. h p (inl (kept_in (λ q. not (is_open r (st.now + 1) q)) st.pending p m).0)) x.asked)
  became st' es' (by_others e o m) s h = subst Became (sym (asked_others r st x at es y e o m s)) as_was

pub no_less : (r : Rules) (st : State) (es : List Event) (st' : State) (es' : List Event) (x y : Spot) → st.walks ≡ all_of x → (c : Call r st es st' es') → Stays r st es st' es' c x y → NoLess x.asked y.asked
no_less r st es st' es' x y at c s = less_counts r st (λ p. Unit {0}) x.asked y.asked (became r st x at es y (λ p. Unit {0}) st' es' c s (λ p m. tt))

-- ---- a query for the word that a question lacks

-- none that lacks another word
pub counts_none : (r : Rules) (st : State) (p : Pending) (u : Question) → lacks_for p u.kind (walk_of r st u).end ≡ false → count_try r st p u ≡ u
counts_none r st p u e = go (counting r st p u)
  where
    go : Counting r st p u → count_try r st p u ≡ u
    go (counts_not f h) = h
    go (counts_so l f h) = absurd (true≢false (sym l ∙ e))

module _ (r : Rules) (st : State) (u : Question) (a n : Name) (lacks : (walk_of r st u).end ≡ LacksAt a n) (may_use : too_many (tried_of a n u.tries) u.tries ≡ false) (p : Pending) (for_it : is_for a n u.kind p ≡ true) where
  apex_is : p.query.apex ≡ a
  apex_is = same_so p.query.apex a (and_parts (same p.query.apex a) (same p.query.name n) (and_parts (same p.query.apex a && same p.query.name n) (eqb p.query.kind u.kind) for_it).0).0

  name_is : p.query.name ≡ n
  name_is = same_so p.query.name n (and_parts (same p.query.apex a) (same p.query.name n) (and_parts (same p.query.apex a && same p.query.name n) (eqb p.query.kind u.kind) for_it).0).1

  pub counted_new : (count_try r st p u).tries ≡ try_more a n p.place p.query.id u.tries
  counted_new = go (counting r st p u)
    where
      lacking-it : lacks_for p u.kind (walk_of r st u).end ≡ true
      lacking-it = ap (lacks_for p u.kind) lacks ∙ for_it

      usable : too_many (tried_of p.query.apex p.query.name u.tries) u.tries ≡ false
      usable = (λ i. too_many (tried_of (apex_is i) (name_is i) u.tries) u.tries) ∙ may_use

      go : Counting r st p u → (count_try r st p u).tries ≡ try_more a n p.place p.query.id u.tries
      go (counts_not e h) = absurd (true≢false (sym (and_from (lacks_for p u.kind (walk_of r st u).end) (not (too_many (tried_of p.query.apex p.query.name u.tries) u.tries)) lacking-it (not_from_false (too_many (tried_of p.query.apex p.query.name u.tries) u.tries) usable)) ∙ e))
      go (counts_so l f h) = ap (λ (v : Question). v.tries) h ∙ (λ i. try_more (apex_is i) (name_is i) p.place p.query.id u.tries)
