-- Queries that are pending: one for each word, and none for a word that is remembered.
use Rattle.std.proofs.Common.{◌≡◌, ℕ, ◌+◌, ◌≤◌, Bool, true, false, not, ◌&&◌, eqb, ◌⊎◌, List, [], ◌∷◌, ◌++◌, None, sym, refl, ap, ◌∙◌, subst, inl, inr, ⊎_elim, true≢false, arith}
use mathlib.Core.List.Memᴰ
use mathlib.Core.List.{Memᴰ}
use Rattle.std.proofs.lemmas.Bool.{and_parts, and_from, eq-eqb, eqb-true, eqb-false, not-true}
use Rattle.meaning.specs.Says.{same}
use Rattle.meaning.proofs.Rules.{same_so, so_same}
use Rattle.protocol.specs.Words.{Name}
use Rattle.protocol.specs.World.{Rules, Query, Entry, Event, entry_for, world}
use Rattle.protocol.specs.Walks.{End, Shows, LacksAt, TooLong, remembered, shown_by}
use Rattle.protocol.proofs.Lists.{some_any, first_some, first_none, kept_in}
use Rattle.protocol.proofs.Settled.{Held, held}
use Rattle.protocol.proofs.Steps.{inv}
use Rattle.machine.specs.Machine.{Question, Pending, State, walk_of, used_by, in_use, is_for, lacks_for, Sent, close_in, is_open, tick}
use Rattle.machine.specs.Refine.{Joint, starts, begins, settles, draws, hears, ticks, others}
use Rattle.machine.proofs.Alike.{in_map}
use Rattle.machine.proofs.Asking.{lack_none}
use Rattle.machine.proofs.Heard.{heard_so}
use Rattle.machine.proofs.Keys.{of_key, key_so, key_self}
use Rattle.machine.proofs.Lives.{Sending, drew_so, began_so, heard_keeps}
use Rattle.machine.proofs.Main.{Runs, runs}
use Rattle.machine.proofs.Paths.{Source, recalled}
use Rattle.machine.proofs.Standings.{wants_so}
use Rattle.machine.proofs.Ways.{none_remembered, not_held, Stay, LackStill, same_way, counted_before, Cached, cached}

-- ---- the word of a query

pub record Word-of (a p : Name) (k : ℕ) (z : Pending) : Type 0 where
  pub apex_is : z.query.apex ≡ a
  pub name_is : z.query.name ≡ p
  pub kind_is : z.query.kind ≡ k

pub for_so : (a p : Name) (k : ℕ) (z : Pending) → is_for a p k z ≡ true → Word-of a p k z
for_so a p k z h =
    let i = and_parts (same z.query.apex a && same z.query.name p) (eqb z.query.kind k) h in
    let j = and_parts (same z.query.apex a) (same z.query.name p) i.0 in
    record { apex_is = same_so z.query.apex a j.0; name_is = same_so z.query.name p j.1; kind_is = eqb-true z.query.kind k i.1 }

pub so_for : (a p : Name) (k : ℕ) (z : Pending) → Word-of a p k z → is_for a p k z ≡ true
so_for a p k z w =
    and_from (same z.query.apex a && same z.query.name p) (eqb z.query.kind k)
    (and_from (same z.query.apex a) (same z.query.name p) (so_same z.query.apex a w.apex_is) (so_same z.query.name p w.name_is)) (eq-eqb z.query.kind k w.kind_is)

abbrev pub SameWord : Pending → Pending → Type 0
SameWord x z = Word-of x.query.apex x.query.name x.query.kind z

-- two queries for one word
pub both_for : (a p : Name) (k : ℕ) (x z : Pending) → is_for a p k x ≡ true → is_for a p k z ≡ true → SameWord x z
both_for a p k x z h g =
    let i = for_so a p k x h in
    let j = for_so a p k z g in
    record { apex_is = j.apex_is ∙ sym i.apex_is; name_is = j.name_is ∙ sym i.name_is; kind_is = j.kind_is ∙ sym i.kind_is }

-- where a question lacks the word of a query
pub lack_of : (p : Pending) (k : ℕ) (e : End) → lacks_for p k e ≡ true → (a : Name) × (q : Name) × (e ≡ LacksAt a q) × (is_for a q k p ≡ true)
lack_of p k (LacksAt a q) h = (a, q, refl, h)
lack_of p k (Shows o) h = absurd (true≢false (sym h))
lack_of p k TooLong h = absurd (true≢false (sym h))

-- ---- one query a word, and none for a word that is remembered

pub record Few-pending (r : Rules) (now : ℕ) (cache : List Entry) (ps : List Pending) : Type 0 where
  pub one : (x z : Pending) → Memᴰ x ps → Memᴰ z ps → SameWord x z → x ≡ z
  pub unknown : (x : Pending) → Memᴰ x ps → remembered r now cache x.query.kind x.query.apex x.query.name ≡ None

abbrev Fewer : Rules → State → Type 0
Fewer r st = Few-pending r st.now st.cache st.pending

turned : (x z : Pending) → SameWord x z → SameWord z x
turned x z w = record { apex_is = sym w.apex_is; name_is = sym w.name_is; kind_is = sym w.kind_is }

few_drawn : (r : Rules) (n : ℕ) (st : State) (s : Sent) → Sending r n st s → Fewer r st → Fewer r s.state
few_drawn r n st s k few = subst (λ (z : Sent). Fewer r z.state) (sym k.sent_is) (record { one = both_one; unknown = known })
  where
    p : Pending
    p = k.pending

    word : Word-of k.apex k.name k.spot.asked.kind k.pending
    word = record { apex_is = ap (λ (q : Query). q.apex) k.query_is; name_is = ap (λ (q : Query). q.name) k.query_is; kind_is = ap (λ (q : Query). q.kind) k.query_is }

    not_there : (z : Pending) → Memᴰ z st.pending → SameWord k.pending z → ⊥
    not_there z m w =
        first_none (is_for k.apex k.name k.spot.asked.kind) st.pending (wants_so r st k.spot.asked k.apex k.name k.servers k.try k.wanted).not_pending z m
        (so_for k.apex k.name k.spot.asked.kind z (record { apex_is = w.apex_is ∙ word.apex_is; name_is = w.name_is ∙ word.name_is; kind_is = w.kind_is ∙ word.kind_is }))

    parts : (x : Pending) → Memᴰ x (st.pending ++ (k.pending ∷ [])) → Memᴰ x st.pending ⊎ (x ≡ k.pending)
    parts x m = ⊎_elim (λ i. inl i) (λ i. inr (Memᴰ.eq_of_singleton i)) (Memᴰ.append_cases st.pending m)

    both_one : (x z : Pending) → Memᴰ x (st.pending ++ (k.pending ∷ [])) → Memᴰ z (st.pending ++ (k.pending ∷ [])) → SameWord x z → x ≡ z
    both_one x z m i w = go (parts x m) (parts z i)
      where
        go : Memᴰ x st.pending ⊎ (x ≡ k.pending) → Memᴰ z st.pending ⊎ (z ≡ k.pending) → x ≡ z
        go (inl a) (inl b) = few.one x z a b w
        go (inl a) (inr b) = absurd (not_there x a (subst (λ y. SameWord y x) b (turned x z w)))
        go (inr a) (inl b) = absurd (not_there z b (subst (λ y. SameWord y z) a w))
        go (inr a) (inr b) = a ∙ sym b

    known : (x : Pending) → Memᴰ x (st.pending ++ (k.pending ∷ [])) → remembered r st.now st.cache x.query.kind x.query.apex x.query.name ≡ None
    known x m = go (parts x m)
      where
        fresh : remembered r st.now st.cache k.pending.query.kind k.pending.query.apex k.pending.query.name ≡ None
        fresh =
            (λ i. remembered r st.now st.cache (word.kind_is i) (word.apex_is i) (word.name_is i))
            ∙ lack_none (remembered r st.now st.cache k.spot.asked.kind) 24 [] k.spot.asked.name k.apex k.name (wants_so r st k.spot.asked k.apex k.name k.servers k.try k.wanted).lacks

        go : Memᴰ x st.pending ⊎ (x ≡ k.pending) → remembered r st.now st.cache x.query.kind x.query.apex x.query.name ≡ None
        go (inl a) = few.unknown x a
        go (inr a) = subst (λ (y : Pending). remembered r st.now st.cache y.query.kind y.query.apex y.query.name ≡ None) (sym a) fresh

-- what stays pending when one is closed
pub still_in : (n : ℕ) (ps : List Pending) (x : Pending) → Memᴰ x (close_in n ps) → Memᴰ x ps × (x.query.id ≡ n → ⊥)
still_in n ps x m =
    let k = kept_in (λ (z : Pending). not (eqb z.query.id n)) ps x m in
    (k.0, eqb-false x.query.id n (not-true (eqb x.query.id n) k.1))

few_heard : (r : Rules) (st : State) (p : Pending) (made : Entry) (es : List Entry) → Memᴰ p st.pending → made.apex ≡ p.query.apex → made.name ≡ p.query.name → made.kind ≡ p.query.kind → Cached r st made es → Fewer r st → Few-pending r st.now es (close_in p.query.id st.pending)
few_heard r st p made es m a n k c few =
    record {
      one = λ x z i j w. few.one x z (still_in p.query.id st.pending x i).0 (still_in p.query.id st.pending z j).0 w;
      unknown = λ x i. none_remembered r st.now es x.query.kind x.query.apex x.query.name (λ e h. by x (still_in p.query.id st.pending x i) e h (c.members e h.there));
    }
  where
    by : (x : Pending) → Memᴰ x st.pending × (x.query.id ≡ p.query.id → ⊥) → (e : Entry) → Held r st.now es x.query.kind x.query.apex x.query.name e → (e ≡ made) ⊎ Memᴰ e st.cache → ⊥
    by x i e h (inl is) =
        let same_word : SameWord p x = record { apex_is = sym h.apex_is ∙ ap (λ (f : Entry). f.apex) is ∙ a; name_is = sym h.name_is ∙ ap (λ (f : Entry). f.name) is ∙ n; kind_is = sym h.kind_is ∙ ap (λ (f : Entry). f.kind) is ∙ k } in
        i.1 (ap (λ (z : Pending). z.query.id) (sym (few.one p x m i.0 same_word)))
    by x i e h (inr there) =
        not_held r st.now st.cache x.query.kind x.query.apex x.query.name (few.unknown x i.0) e
        (record { there = there; counting = h.counting; apex_is = h.apex_is; name_is = h.name_is; kind_is = h.kind_is })

few_ticked : (r : Rules) (st : State) → Fewer r st → Fewer r (tick r st)
unfolding tick
few_ticked r st few =
    record {
      one = λ x z i j w. few.one x z (kept_in (is_open r (st.now + 1)) st.pending x i).0 (kept_in (is_open r (st.now + 1)) st.pending z j).0 w;
      unknown = λ x i. none_remembered r (st.now + 1) st.cache x.query.kind x.query.apex x.query.name (λ e h.
          not_held r st.now st.cache x.query.kind x.query.apex x.query.name (few.unknown x (kept_in (is_open r (st.now + 1)) st.pending x i).0) e
          (record { there = h.there; counting = counted_before r st.now e h.counting; apex_is = h.apex_is; name_is = h.name_is; kind_is = h.kind_is }));
    }

pub few_pending : (r : Rules) (st : State) (es : List Event) → Joint r st es → Few-pending r st.now st.cache st.pending
few_pending r st es starts = record { one = λ x z m i w. absurd (Memᴰ.not-nil m); unknown = λ x m. absurd (Memᴰ.not-nil m) }
few_pending r st es (begins {st = s} {es = fs} j v) = subst (Fewer r) (sym (began_so r v s).1) (few_pending r s fs j)
few_pending r st es (settles {st = s} {es = fs} j) = few_pending r s fs j
few_pending r st es (draws {st = s} {es = fs} j n may t e) =
    let ih = few_pending r s fs j in
    ⊎_elim (λ k. subst (λ (z : Sent). Fewer r z.state) (sym k) ih) (λ (k : Sending r n s t). few_drawn r n s t k ih) (drew_so r n s t e)
few_pending r st es (hears {st = s} {es = fs} j y m p f h e) =
    let k = heard_keeps r y s p h f e in
    let c = cached r y s p h (runs r s fs j).1.keys (heard_so r y s p h f e) in
    let c2 : Cached r s (entry_for s.now p.query y.word) k.0 = subst (λ (z : State). Cached r s (entry_for s.now p.query y.word) z.cache) k.1 c in
    subst (Fewer r) (sym k.1) (few_heard r s p (entry_for s.now p.query y.word) k.0 (first_some (λ (z : Pending). eqb z.query.id y.id) s.pending p f).0 refl refl refl c2 (few_pending r s fs j))
few_pending r st es (ticks {st = s} {es = fs} j) = few_ticked r s (few_pending r s fs j)
few_pending r st es (others {st = s} {es = fs} j e o m) = few_pending r s fs j

-- ---- when they were asked

module _ (r : Rules) (st : State) (es : List Event) (j : Joint r st es) where
  run : Runs r st es
  run = runs r st es j

  in_world : (p : Pending) → Memᴰ p st.pending → Memᴰ p.query (world r es).pending
  in_world p m = (run.1.pending_is p.query).0 (in_map (λ (z : Pending). z.query) st.pending p m)

  pub asked_past : (p : Pending) → Memᴰ p st.pending → p.query.asked ≤ st.now
  asked_past p m =
      let i = inv r es run.0 in
      let a = i.sent_past p.query (i.pending_sent p.query (in_world p m)) in
      let n = run.1.now_is in
      omega arith

  pub asked_open : (p : Pending) → Memᴰ p st.pending → st.now ≤ p.query.asked + r.patience
  asked_open p m =
      let a = (inv r es run.0).pending_open p.query (in_world p m) in
      let n = run.1.now_is in
      omega arith

  -- an id is that of one query
  pub one_id : (p z : Pending) → Memᴰ p st.pending → Memᴰ z st.pending → p.query.id ≡ z.query.id → p.query ≡ z.query
  one_id p z m n e =
      let i = inv r es run.0 in
      i.sent_once p.query z.query (i.pending_sent p.query (in_world p m)) (i.pending_sent z.query (in_world z n)) e

-- ---- a response for another word leaves the way of a question as it was

module _ (r : Rules) (st : State) (es : List Event) (j : Joint r st es) (u : Question) (under_way : Memᴰ u st.walks) (p : Pending) (there : Memᴰ p st.pending) (made : Entry) (apex_is : made.apex ≡ p.query.apex) (name_is : made.name ≡ p.query.name) (kind_is : made.kind ≡ p.query.kind) (cs : List Entry) (c : Cached r st made cs) (other : lacks_for p u.kind (walk_of r st u).end ≡ false) where
  abbrev f : Source
  f = remembered r st.now st.cache u.kind

  abbrev g : Source
  g = remembered r st.now cs u.kind

  in_use_lem : (e : Entry) → Memᴰ e (walk_of r st u).words → in_use r st e ≡ true
  in_use_lem e m = some_any (used_by r st e) st.walks u under_way (some_any (λ (x : Entry). of_key e x) (walk_of r st u).words e m (key_self e))

  words_stay : Stay f g 24 [] u.name
  words_stay c' q e m h =
      let k = held r st.now st.cache u.kind c' q e h in
      let there2 = c.stays e k.there (not_made e k (of_key made e) refl) (in_use_lem e m) in
      recalled r st.now cs u.kind c' q e c.one (record { there = there2; counting = k.counting; apex_is = k.apex_is; name_is = k.name_is; kind_is = k.kind_is })
    where
      not_made : (e : Entry) → Held r st.now st.cache u.kind c' q e → (b : Bool) → of_key made e ≡ b → of_key made e ≡ false
      not_made e k false i = i
      not_made e k true i =
          let x = key_so made e i in
          absurd (not_held r st.now st.cache p.query.kind p.query.apex p.query.name ((few_pending r st es j).unknown p there) e
          (record { there = k.there; counting = k.counting; apex_is = x.apex_is ∙ apex_is; name_is = x.name_is ∙ name_is; kind_is = x.kind_is ∙ kind_is }))

  lack_still : LackStill f g 24 [] u.name
  lack_still c' q e = none_remembered r st.now cs u.kind c' q (λ x k. by x k (c.members x k.there))
    where
      by : (x : Entry) → Held r st.now cs u.kind c' q x → (x ≡ made) ⊎ Memᴰ x st.cache → ⊥
      by x k (inl i) =
          let word : Word-of c' q u.kind p = record { apex_is = sym apex_is ∙ sym (ap (λ (y : Entry). y.apex) i) ∙ k.apex_is; name_is = sym name_is ∙ sym (ap (λ (y : Entry). y.name) i) ∙ k.name_is; kind_is = sym kind_is ∙ sym (ap (λ (y : Entry). y.kind) i) ∙ k.kind_is } in
          true≢false (sym (so_for c' q u.kind p word) ∙ sym (ap (lacks_for p u.kind) e) ∙ other)
      by x k (inr m) =
          not_held r st.now st.cache u.kind c' q (lack_none f 24 [] u.name c' q e) x
          (record { there = m; counting = k.counting; apex_is = k.apex_is; name_is = k.name_is; kind_is = k.kind_is })

  pub way_heard : shown_by r st.now cs u.name u.kind ≡ walk_of r st u
  way_heard = same_way f g 24 [] u.name words_stay lack_still
