-- There is always a place for a query that is wanted: until a second passes, each pending query that was asked in it is
-- that of a question under way, and no two are of one.
use Rattle.std.proofs.Common.{◌≡◌, ℕ, zero, suc, ◌+◌, ◌-◌, ◌*◌, ◌<◌, ◌≤◌, Bool, true, false, not, ◌&&◌, eqb, List, [], ◌∷◌, ◌++◌, map, length, Some, None, Option, sym, refl, ap, ◌∙◌, subst, ⊎_elim, true≢false, arith}
use mathlib.Core.List.Memᴰ
use mathlib.Core.List.{Memᴰ}
use Rattle.std.proofs.lemmas.Bool.{cond-false, cases_lt, cases_eq, and_right, not-true, not_from_true, not_from_false, eqb-true, eqb-false, eq-eqb, ne_eqb, false_from_ne_true}
use Rattle.protocol.specs.Lists.{kept}
use Rattle.protocol.specs.Words.{Name}
use Rattle.protocol.specs.World.{Rules, Query, Entry, Event, entry_for}
use Rattle.protocol.specs.Walks.{LacksAt, Walk}
use Rattle.protocol.proofs.Lists.{some_none, first_some, first_none, first_found, kept_here, kept_not, kept_in, kept_all}
use Rattle.machine.specs.Machine.{max_walks, Tried, Question, Pending, State, Answer, Nowhere, walk_of, servers_on, tried_of, too_many, exhausted, is_last, is_for, pending_for, Standing, Done, Awaits, lacking, standing_by, standing, with_walks, is_done, settle_on, settle_in, settle, lacks_for, count_try, is_waiting, Wants, Sent, send, close_in, keep, is_open, tick}
use Rattle.machine.specs.Refine.{Joint, starts, begins, settles, draws, hears, ticks, others}
use Rattle.machine.proofs.Alike.{in_map}
use Rattle.machine.proofs.Asking.{kept_snoc}
use Rattle.machine.proofs.Counting.{by_counting, counts_none, counted_new}
use Rattle.machine.proofs.Heard.{heard_so}
use Rattle.machine.proofs.Lives.{Sending, drew_so, began_so, heard_keeps}
use Rattle.machine.proofs.Main.{runs}
use Rattle.machine.proofs.Patient.{Word-of, for_so, so_for, SameWord, both_for, few_pending, still_in, asked_past, asked_open, way_heard, lack_of}
use Rattle.machine.proofs.Standings.{wants_so}
use Rattle.machine.proofs.Trying.{more_found}
use Rattle.machine.proofs.Ways.{Cached, cached}

-- ---- what is kept of a list

kept_least : {A : Type 0} (t s : A → Bool) (xs : List A) → length (kept t (kept s xs)) ≤ length (kept t xs)
unfolding kept
kept_least t s [] = omega arith
kept_least {A} t s (x ∷ xs) = go (s x) refl (t x) refl (kept_least t s xs)
  where
    go : (b : Bool) → s x ≡ b → (c : Bool) → t x ≡ c → length (kept t (kept s xs)) ≤ length (kept t xs) → length (kept t (kept s (x ∷ xs))) ≤ length (kept t (x ∷ xs))
    go true e true f ih =
        let a = ap (λ ys. length (kept t ys)) (kept_here s x xs e) in
        let b = ap length (kept_here t x (kept s xs) f) in
        let c = ap length (kept_here t x xs f) in
        omega arith
    go true e false f ih =
        let a = ap (λ ys. length (kept t ys)) (kept_here s x xs e) in
        let b = ap length (kept_not t x (kept s xs) f) in
        let c = ap length (kept_not t x xs f) in
        omega arith
    go false e true f ih =
        let a = ap (λ ys. length (kept t ys)) (kept_not s x xs e) in
        let c = ap length (kept_here t x xs f) in
        omega arith
    go false e false f ih =
        let a = ap (λ ys. length (kept t ys)) (kept_not s x xs e) in
        let c = ap length (kept_not t x xs f) in
        omega arith

both_kept : {A : Type 0} (t : A → Bool) (xs : List A) → length xs ≤ length (kept t xs) + length (kept (λ x. not (t x)) xs)
unfolding kept
both_kept t [] = omega arith
both_kept {A} t (x ∷ xs) = go (t x) refl (both_kept t xs)
  where
    go : (b : Bool) → t x ≡ b → length xs ≤ length (kept t xs) + length (kept (λ y. not (t y)) xs) → suc (length xs) ≤ length (kept t (x ∷ xs)) + length (kept (λ y. not (t y)) (x ∷ xs))
    go true e ih =
        let a = ap length (kept_here t x xs e) in
        let b = ap length (kept_not (λ y. not (t y)) x xs (not_from_true (t x) e)) in
        omega arith
    go false e ih =
        let a = ap length (kept_not t x xs e) in
        let b = ap length (kept_here (λ y. not (t y)) x xs (not_from_false (t x) e)) in
        omega arith

-- ---- no two for one word

abbrev pub Apart : List Pending → Type 0
Apart [] = Unit {0}
Apart (x ∷ xs) = ((z : Pending) → Memᴰ z xs → SameWord x z → ⊥) × Apart xs

apart_kept : (t : Pending → Bool) (xs : List Pending) → Apart xs → Apart (kept t xs)
unfolding kept
apart_kept t [] h = tt
apart_kept t (x ∷ xs) h = go (t x) refl (apart_kept t xs h.1)
  where
    go : (b : Bool) → t x ≡ b → Apart (kept t xs) → Apart (kept t (x ∷ xs))
    go true e ih = subst Apart (sym (kept_here t x xs e)) (λ z m. h.0 z (kept_in t xs z m).0, ih)
    go false e ih = subst Apart (sym (kept_not t x xs e)) ih

apart_snoc : (xs : List Pending) (x : Pending) → Apart xs → ((z : Pending) → Memᴰ z xs → SameWord z x → ⊥) → Apart (xs ++ (x ∷ []))
apart_snoc [] x h n = (λ z m. absurd (Memᴰ.not-nil m), tt)
apart_snoc (y ∷ ys) x h n =
    (λ z m w. ⊎_elim (λ i. h.0 z i w) (λ i. n y (Memᴰ.head refl) (subst (SameWord y) (Memᴰ.eq_of_singleton i) w)) (Memᴰ.append_cases ys m), apart_snoc ys x h.1 (λ z m. n z (Memᴰ.tail m)))

-- ---- queries and the questions that lack their words

module _ (r : Rules) (st : State) where
  abbrev pub owns : Question → Pending → Bool
  owns v x = lacks_for x v.kind (walk_of r st v).end

  -- a question lacks one word
  one_word : (v : Question) (x z : Pending) → owns v x ≡ true → owns v z ≡ true → SameWord x z
  one_word v x z h g =
      let l = lack_of x v.kind (walk_of r st v).end h in
      both_for l.0 l.1 v.kind x z l.3 (sym (ap (lacks_for z v.kind) l.2) ∙ g)

  abbrev Owned : List Question → Pending → Type 0
  Owned us x = (v : Question) × Memᴰ v us × (owns v x ≡ true)

  one_of_it : (v : Question) (xs : List Pending) → Apart xs → length xs ≤ suc (length (kept (λ x. not (owns v x)) xs))
  unfolding kept
  one_of_it v [] h = omega arith
  one_of_it v (x ∷ xs) h = go (owns v x) refl (one_of_it v xs h.1)
    where
      go : (b : Bool) → owns v x ≡ b → length xs ≤ suc (length (kept (λ z. not (owns v z)) xs)) → suc (length xs) ≤ suc (length (kept (λ z. not (owns v z)) (x ∷ xs)))
      go true e ih =
          let a = ap length (kept_not (λ z. not (owns v z)) x xs (not_from_true (owns v x) e)) in
          let b = ap length (kept_all (λ z. not (owns v z)) xs (λ z m. not_from_false (owns v z) (false_from_ne_true (owns v z) (λ i. h.0 z m (one_word v x z e i))))) in
          omega arith
      go false e ih = let a = ap length (kept_here (λ z. not (owns v z)) x xs (not_from_false (owns v x) e)) in omega arith

  others_own : (v : Question) (us : List Question) (xs : List Pending) → ((x : Pending) → Memᴰ x xs → Owned (v ∷ us) x) → (x : Pending) → Memᴰ x (kept (λ z. not (owns v z)) xs) → Owned us x
  others_own v us xs h x m =
      let k = kept_in (λ z. not (owns v z)) xs x m in
      let o = h x k.0 in
      ⊎_elim (λ i. absurd (true≢false (sym o.2 ∙ ap (λ u. owns u x) i ∙ not-true (owns v x) k.1))) (λ i. (o.0, i, o.2)) (Memᴰ.cases_cons o.1)

  -- as many questions at least as queries for their words
  pigeons : (us : List Question) (xs : List Pending) → Apart xs → ((x : Pending) → Memᴰ x xs → Owned us x) → length xs ≤ length us
  pigeons [] [] a h = omega arith
  pigeons [] (x ∷ xs) a h = absurd (Memᴰ.not-nil (h x (Memᴰ.head refl)).1)
  pigeons (v ∷ us) xs a h =
      let l = one_of_it v xs a in
      let k = pigeons us (kept (λ z. not (owns v z)) xs) (apart_kept (λ z. not (owns v z)) xs a) (others_own v us xs h) in
      omega arith

  -- and one more, where one of them lacks the word of none
  pigeons_more : (us : List Question) (u : Question) → Memᴰ u us → (xs : List Pending) → Apart xs → ((x : Pending) → Memᴰ x xs → owns u x ≡ false) → ((x : Pending) → Memᴰ x xs → Owned us x) → length xs < length us
  pigeons_more [] u m xs a n h = absurd (Memᴰ.not-nil m)
  pigeons_more (v ∷ us) u m xs a n h = ⊎_elim at_head (λ i. further (pigeons_more us u i (kept (λ z. not (owns v z)) xs) (apart_kept (λ z. not (owns v z)) xs a) (λ x j. n x (kept_in (λ z. not (owns v z)) xs x j).0) (others_own v us xs h))) (Memᴰ.cases_cons m)
    where
      at_head : u ≡ v → length xs < suc (length us)
      at_head e =
          let k = pigeons us xs a (λ x i. let o = h x i in ⊎_elim (λ j. absurd (true≢false (sym o.2 ∙ ap (λ w. owns w x) (j ∙ sym e) ∙ n x i))) (λ j. (o.0, j, o.2)) (Memᴰ.cases_cons o.1)) in
          omega arith

      further : length (kept (λ z. not (owns v z)) xs) < length us → length xs < suc (length us)
      further k = let l = one_of_it v xs a in omega arith

-- ---- the question for which a query is pending since this second

pub record Owner (r : Rules) (st : State) (x : Pending) : Type 0 where
  pub asked : Question
  pub under_way : Memᴰ asked st.walks
  pub lacks : lacks_for x asked.kind (walk_of r st asked).end ≡ true
  pub try : Tried
  pub try_is : tried_of x.query.apex x.query.name asked.tries ≡ Some try
  pub id_is : try.id ≡ x.query.id

pub record Placed (r : Rules) (st : State) : Type 0 where
  pub apart : Apart st.pending
  pub owned : (x : Pending) → Memᴰ x st.pending → x.query.asked ≡ st.now → Owner r st x
  pub older : (a : ℕ) → a < st.now → length (kept (λ x. eqb x.query.asked a) st.pending) ≤ 16

-- it is not done while that is pending
module _ (r : Rules) (st : State) (es : List Event) (j : Joint r st es) (x : Pending) (there : Memᴰ x st.pending) (o : Owner r st x) where
  pub own_stands : is_done (standing r st o.asked) ≡ None
  unfolding standing
  own_stands = by (lack_of x o.asked.kind (walk_of r st o.asked).end o.lacks)
    where
      by : (a : Name) × (q : Name) × ((walk_of r st o.asked).end ≡ LacksAt a q) × (is_for a q o.asked.kind x ≡ true) → is_done (standing_by r st o.asked (walk_of r st o.asked).words (walk_of r st o.asked).end) ≡ None
      by l =
          let w = for_so l.0 l.1 o.asked.kind x l.3 in
          let tried : tried_of l.0 l.1 o.asked.tries ≡ Some o.try = (λ i. tried_of (sym w.apex_is i) (sym w.name_is i) o.asked.tries) ∙ o.try_is in
          let f = first_found (is_for l.0 l.1 o.asked.kind) st.pending x there l.3 in
          let g = first_some (is_for l.0 l.1 o.asked.kind) st.pending f.0 f.1 in
          let one = (few_pending r st es j).one f.0 x g.0 there (both_for l.0 l.1 o.asked.kind f.0 x g.1 l.3) in
          let ss = servers_on r (walk_of r st o.asked).words in
          let many : too_many (tried_of l.0 l.1 o.asked.tries) o.asked.tries ≡ false = ap (λ t. too_many t o.asked.tries) tried in
          let last : is_last (Some o.try) x ≡ true = eq-eqb o.try.id x.query.id o.id_is in
          ap is_done
          (ap (standing_by r st o.asked (walk_of r st o.asked).words) l.2
          ∙ cond-false (too_many (tried_of l.0 l.1 o.asked.tries) o.asked.tries) (Done Nowhere 0) (lacking l.0 l.1 ss (tried_of l.0 l.1 o.asked.tries) (pending_for l.0 l.1 o.asked.kind st.pending)) many
          ∙ (λ i. lacking l.0 l.1 ss (tried i) (f.1 i)) ∙ ap (λ z. lacking l.0 l.1 ss (Some o.try) (Some z)) one
          ∙ cond-false (exhausted ss (Some o.try) && not (is_last (Some o.try) x)) (Done Nowhere 0) (Awaits l.0 l.1) (and_right (exhausted ss (Some o.try)) (not (is_last (Some o.try) x)) (not_from_true (is_last (Some o.try) x) last)))

-- what is not done isn't settled
not_settled : (r : Rules) (st : State) (us : List Question) (v : Question) → Memᴰ v us → is_done (standing r st v) ≡ None → Memᴰ v (settle_in r st us).walks
unfolding settle_in
not_settled r st [] v m h = absurd (Memᴰ.not-nil m)
not_settled r st (u ∷ us) v m h = go (is_done (standing r st u)) refl (λ i. not_settled r st us v i h)
  where
    go : (o : Option (Answer × ℕ)) → is_done (standing r st u) ≡ o → (Memᴰ v us → Memᴰ v (settle_in r st us).walks) → Memᴰ v (settle_on u us (is_done (standing r st u)) (settle_in r st us)).walks
    go None e ih =
        subst (λ o. Memᴰ v (settle_on u us o (settle_in r st us)).walks) (sym e)
        (⊎_elim (λ i. Memᴰ.head i) (λ i. Memᴰ.tail (ih i)) (Memᴰ.cases_cons m))
    go (Some z) e ih =
        subst (λ o. Memᴰ v (settle_on u us o (settle_in r st us)).walks) (sym e)
        (⊎_elim (λ i. absurd (some_none z (sym h ∙ ap (λ w. is_done (standing r st w)) i ∙ e))) (λ i. i) (Memᴰ.cases_cons m))

-- ---- each call

module _ (r : Rules) (st : State) (es : List Event) (j : Joint r st es) (pl : Placed r st) where
  placed_begin : (ws : List Question) → Placed r (with_walks (st.walks ++ ws) st)
  placed_begin ws =
      record {
        apart = pl.apart;
        owned = λ x m e. let o = pl.owned x m e in record { asked = o.asked; under_way = Memᴰ.append_left ws o.under_way; lacks = o.lacks; try = o.try; try_is = o.try_is; id_is = o.id_is };
        older = pl.older;
      }

  placed_settle : Placed r (settle r st).state
  placed_settle =
      record {
        apart = pl.apart;
        owned = λ x m e.
            let o = pl.owned x m e in
            record { asked = o.asked; under_way = not_settled r st st.walks o.asked o.under_way (own_stands r st es j x m o); lacks = o.lacks; try = o.try; try_is = o.try_is; id_is = o.id_is };
        older = pl.older;
      }

  -- one that a query does not count for is still there
  module _ (p : Pending) where
    counted_still : (v : Question) → Memᴰ v st.walks → lacks_for p v.kind (walk_of r st v).end ≡ false → Memᴰ v (map (count_try r st p) st.walks)
    counted_still v m e = subst (λ u. Memᴰ u (map (count_try r st p) st.walks)) (counts_none r st p v e) (in_map (count_try r st p) st.walks v m)

    lacks_other : (x : Pending) → (SameWord x p → ⊥) → (v : Question) → lacks_for x v.kind (walk_of r st v).end ≡ true → lacks_for p v.kind (walk_of r st v).end ≡ false
    lacks_other x n v h = false_from_ne_true (lacks_for p v.kind (walk_of r st v).end) (λ g. n (one_word r st v x p h g))

  placed_drawn : (i : ℕ) (s : Sent) → Sending r i st s → Placed r s.state
  placed_drawn i s k = subst (λ (z : Sent). Placed r z.state) (sym k.sent_is) (record { apart = apart_snoc st.pending k.pending pl.apart not_there; owned = own; older = old })
    where
      word : Word-of k.apex k.name k.spot.asked.kind k.pending
      word = record { apex_is = ap (λ (q : Query). q.apex) k.query_is; name_is = ap (λ (q : Query). q.name) k.query_is; kind_is = ap (λ (q : Query). q.kind) k.query_is }

      not_there : (z : Pending) → Memᴰ z st.pending → SameWord z k.pending → ⊥
      not_there z m w =
          first_none (is_for k.apex k.name k.spot.asked.kind) st.pending (wants_so r st k.spot.asked k.apex k.name k.servers k.try k.wanted).not_pending z m
          (so_for k.apex k.name k.spot.asked.kind z (record { apex_is = sym w.apex_is ∙ word.apex_is; name_is = sym w.name_is ∙ word.name_is; kind_is = sym w.kind_is ∙ word.kind_is }))

      for_it : is_for k.apex k.name k.spot.asked.kind k.pending ≡ true
      for_it = so_for k.apex k.name k.spot.asked.kind k.pending word

      asker : Memᴰ k.spot.asked st.walks
      asker = subst (Memᴰ k.spot.asked) (sym k.under_way) (Memᴰ.append_right k.spot.before (Memᴰ.head refl))

      fresh_owner : Owner r (send r st k.pending).state k.pending
      fresh_owner =
          let w = wants_so r st k.spot.asked k.apex k.name k.servers k.try k.wanted in
          let f = more_found k.apex k.name k.pending.place k.pending.query.id k.spot.asked.tries in
          record {
            asked = count_try r st k.pending k.spot.asked;
            under_way = in_map (count_try r st k.pending) st.walks k.spot.asked asker;
            lacks = by_counting r st k.pending k.spot.asked (λ v. lacks_for k.pending v.kind (walk_of r st v).end ≡ true) (ap (lacks_for k.pending k.spot.asked.kind) w.lacks ∙ for_it) (λ g. ap (lacks_for k.pending k.spot.asked.kind) w.lacks ∙ for_it);
            try = f.0;
            try_is = (λ i. tried_of (word.apex_is i) (word.name_is i) (counted_new r st k.spot.asked k.apex k.name w.lacks w.may_use k.pending for_it i)) ∙ f.1;
            id_is = f.2;
          }

      own : (x : Pending) → Memᴰ x (st.pending ++ (k.pending ∷ [])) → x.query.asked ≡ st.now → Owner r (send r st k.pending).state x
      own x m e = ⊎_elim before (λ a. subst (Owner r (send r st k.pending).state) (sym (Memᴰ.eq_of_singleton a)) fresh_owner) (Memᴰ.append_cases st.pending m)
        where
          before : Memᴰ x st.pending → Owner r (send r st k.pending).state x
          before a =
              let o = pl.owned x a e in
              record {
                asked = o.asked;
                under_way = counted_still k.pending o.asked o.under_way (lacks_other k.pending x (not_there x a) o.asked o.lacks);
                lacks = o.lacks;
                try = o.try;
                try_is = o.try_is;
                id_is = o.id_is;
              }

      old : (a : ℕ) → a < st.now → length (kept (λ x. eqb x.query.asked a) (st.pending ++ (k.pending ∷ []))) ≤ 16
      old a l =
          let h = pl.older a l in
          let n = ap (λ (q : Query). q.asked) k.query_is in
          let e = ap length (kept_snoc (λ (x : Pending). eqb x.query.asked a) st.pending k.pending (ne_eqb k.pending.query.asked a (λ i. omega arith))) in
          omega arith

  placed_heard : (p : Pending) → Memᴰ p st.pending → (made : Entry) → made.apex ≡ p.query.apex → made.name ≡ p.query.name → made.kind ≡ p.query.kind → (cs : List Entry) → Cached r st made cs → Placed r (keep r st p cs)
  placed_heard p there made a n k cs c =
      record {
        apart = apart_kept (λ (x : Pending). not (eqb x.query.id p.query.id)) st.pending pl.apart;
        owned = own;
        older = λ b l. let h = pl.older b l in let e = kept_least (λ (x : Pending). eqb x.query.asked b) (λ (x : Pending). not (eqb x.query.id p.query.id)) st.pending in omega arith;
      }
    where
      own : (x : Pending) → Memᴰ x (close_in p.query.id st.pending) → x.query.asked ≡ st.now → Owner r (keep r st p cs) x
      own x m e =
          let i = still_in p.query.id st.pending x m in
          let o = pl.owned x i.0 e in
          let other = lacks_other p x (λ w. i.1 (ap (λ (z : Pending). z.query.id) ((few_pending r st es j).one x p i.0 there w))) o.asked o.lacks in
          let same = way_heard r st es j o.asked o.under_way p there made a n k cs c other in
          record {
            asked = o.asked;
            under_way = counted_still p o.asked o.under_way other;
            lacks = ap (λ (w : Walk Entry). lacks_for x o.asked.kind w.end) same ∙ o.lacks;
            try = o.try;
            try_is = o.try_is;
            id_is = o.id_is;
          }

  -- those asked in this second
  asked_now : List Pending
  asked_now = kept (λ x. eqb x.query.asked st.now) st.pending

  owned_now : (x : Pending) → Memᴰ x (kept (λ x. eqb x.query.asked st.now) st.pending) → Owned r st st.walks x
  owned_now x m =
      let k = kept_in (λ (x : Pending). eqb x.query.asked st.now) st.pending x m in
      let o = pl.owned x k.0 (eqb-true x.query.asked st.now k.1) in
      (o.asked, o.under_way, o.lacks)

  few_now : length (kept (λ x. eqb x.query.asked st.now) st.pending) ≤ length st.walks
  few_now = pigeons r st st.walks (kept (λ x. eqb x.query.asked st.now) st.pending) (apart_kept (λ x. eqb x.query.asked st.now) st.pending pl.apart) owned_now

  placed_tick : Placed r (tick r st)
  unfolding tick
  placed_tick =
      record {
        apart = apart_kept (is_open r (st.now + 1)) st.pending pl.apart;
        owned = λ x m e. let p = asked_past r st es j x (kept_in (is_open r (st.now + 1)) st.pending x m).0 in absurd (omega arith);
        older = λ a l.
            let e = kept_least (λ (x : Pending). eqb x.query.asked a) (is_open r (st.now + 1)) st.pending in
            ⊎_elim (λ (is : a ≡ st.now). at_now a is e) (λ (not_now : a ≡ st.now → ⊥). let h = pl.older a (before a not_now l) in omega arith) (cases_eq a st.now);
      }
    where
      before : (a : ℕ) → (a ≡ st.now → ⊥) → a < st.now + 1 → a < st.now
      before a n l = ⊎_elim (λ (h : a < st.now). h) (λ (h : st.now ≤ a). absurd (n (omega arith))) (cases_lt a st.now)

      at_now : (a : ℕ) → a ≡ st.now → length (kept (λ (x : Pending). eqb x.query.asked a) (kept (is_open r (st.now + 1)) st.pending)) ≤ length (kept (λ (x : Pending). eqb x.query.asked a) st.pending) → length (kept (λ (x : Pending). eqb x.query.asked a) (kept (is_open r (st.now + 1)) st.pending)) ≤ 16
      at_now a is e =
          let f = few_now in
          let w = (runs r st es j).1.few in
          let s = ap (λ n. length (kept (λ (x : Pending). eqb x.query.asked n) st.pending)) is in
          omega arith

pub placed : (r : Rules) (st : State) (es : List Event) → Joint r st es → Placed r st
placed r st es starts = record { apart = tt; owned = λ x m e. absurd (Memᴰ.not-nil m); older = λ a l. absurd (omega arith) }
placed r st es (begins {st = s} {es = fs} j v) = let b = began_so r v s in subst (Placed r) (sym b.1) (placed_begin r s fs j (placed r s fs j) b.0)
placed r st es (settles {st = s} {es = fs} j) = placed_settle r s fs j (placed r s fs j)
placed r st es (draws {st = s} {es = fs} j n may t e) =
    let ih = placed r s fs j in
    ⊎_elim (λ k. subst (λ (z : Sent). Placed r z.state) (sym k) ih) (λ (k : Sending r n s t). placed_drawn r s fs j ih n t k) (drew_so r n s t e)
placed r st es (hears {st = s} {es = fs} j y m p f h e) =
    let k = heard_keeps r y s p h f e in
    let c = cached r y s p h (runs r s fs j).1.keys (heard_so r y s p h f e) in
    let c2 : Cached r s (entry_for s.now p.query y.word) k.0 = subst (λ (z : State). Cached r s (entry_for s.now p.query y.word) z.cache) k.1 c in
    subst (Placed r) (sym k.1) (placed_heard r s fs j (placed r s fs j) p (first_some (λ (z : Pending). eqb z.query.id y.id) s.pending p f).0 (entry_for s.now p.query y.word) refl refl refl k.0 c2)
placed r st es (ticks {st = s} {es = fs} j) = placed_tick r s fs j (placed r s fs j)
placed r st es (others {st = s} {es = fs} j e o m) = placed r s fs j

-- ---- in all

-- 16 for each second before this one
abbrev ByAge : ℕ → ℕ → ℕ → List Pending → Type 0
ByAge now top k ps =
    ((x : Pending) → Memᴰ x ps → now ≤ x.query.asked + k) → ((x : Pending) → Memᴰ x ps → x.query.asked ≤ now) → ((a : ℕ) → a < now → length (kept (λ (x : Pending). eqb x.query.asked a) ps) ≤ 16) →
    length (kept (λ (x : Pending). eqb x.query.asked now) ps) ≤ top → length ps ≤ 16 * k + top

by_age : (now top k : ℕ) (ps : List Pending) → ByAge now top k ps
by_age now top zero ps young past older few =
    let e = ap length (kept_all (λ (x : Pending). eqb x.query.asked now) ps (λ x m. let a = young x m in let b = past x m in eq-eqb x.query.asked now (omega arith))) in
    omega arith
by_age now top (suc k) ps young past older few = ⊎_elim (soon (by_age now top k ps)) (λ l. late (by_age now top k) l (now - suc k) (omega arith)) (cases_lt now (suc k))
  where
    soon : ByAge now top k ps → now < suc k → length ps ≤ 16 * suc k + top
    soon ih l = let h = ih (λ x m. omega arith) past older few in omega arith

    -- those of the second farthest back, and the others
    late : ((qs : List Pending) → ByAge now top k qs) → suc k ≤ now → (a : ℕ) → a + suc k ≡ now → length ps ≤ 16 * suc k + top
    late ih l a e =
        let both = both_kept (λ (x : Pending). eqb x.query.asked a) ps in
        let first_part = older a (omega arith) in
        let rest = ih (kept (λ (x : Pending). not (eqb x.query.asked a)) ps)
        (λ x m.
        let i = kept_in (λ (x : Pending). not (eqb x.query.asked a)) ps x m in
        nearer (young x i.0) (eqb-false x.query.asked a (not-true (eqb x.query.asked a) i.1)))
        (λ x m. past x (kept_in (λ (x : Pending). not (eqb x.query.asked a)) ps x m).0)
        (λ b m. let c = kept_least (λ (x : Pending). eqb x.query.asked b) (λ (x : Pending). not (eqb x.query.asked a)) ps in let d = older b m in omega arith)
        (let c = kept_least (λ (x : Pending). eqb x.query.asked now) (λ (x : Pending). not (eqb x.query.asked a)) ps in omega arith) in
        omega arith
      where
        nearer : {n : ℕ} → now ≤ n + suc k → (n ≡ a → ⊥) → now ≤ n + k
        nearer {n} h d = ⊎_elim (λ (i : n + k < now). absurd (d (omega arith))) (λ (i : now ≤ n + k). i) (cases_lt (n + k) now)

module _ (r : Rules) (st : State) (es : List Event) (j : Joint r st es) where
  -- as many in this second as questions are under way, and 16 for each second of patience before it
  pub places : length st.pending ≤ max_walks * r.patience + length st.walks
  places = by_age st.now (length st.walks) r.patience st.pending (asked_open r st es j) (asked_past r st es j) (placed r st es j).older (few_now r st es j (placed r st es j))

  wants_none : (u : Question) → is_waiting (standing r st u) ≡ true → (x : Pending) → Memᴰ x st.pending → owns r st u x ≡ false
  wants_none u w x m = go (standing r st u) refl
    where
      go : (s : Standing) → standing r st u ≡ s → owns r st u x ≡ false
      go (Done a n) e = absurd (true≢false (sym w ∙ ap is_waiting e))
      go (Awaits a p) e = absurd (true≢false (sym w ∙ ap is_waiting e))
      go (Wants a p ss o) e =
          let k = wants_so r st u a p ss o e in
          false_from_ne_true (owns r st u x) (λ h. first_none (is_for a p u.kind) st.pending k.not_pending x m (sym (ap (lacks_for x u.kind) k.lacks) ∙ h))

  -- and one fewer where a question wants a query
  pub place_for_it : (u : Question) → Memᴰ u st.walks → is_waiting (standing r st u) ≡ true → length st.pending < max_walks * r.patience + length st.walks
  place_for_it u m w = counted_up (length st.walks) refl
    where
      now_fewer : length (kept (λ x. eqb x.query.asked st.now) st.pending) < length st.walks
      now_fewer =
          let p = placed r st es j in
          pigeons_more r st st.walks u m (kept (λ x. eqb x.query.asked st.now) st.pending) (apart_kept (λ x. eqb x.query.asked st.now) st.pending p.apart)
          (λ x i. wants_none u w x (kept_in (λ (x : Pending). eqb x.query.asked st.now) st.pending x i).0) (owned_now r st es j p)

      counted_up : (n : ℕ) → length st.walks ≡ n → length st.pending < max_walks * r.patience + length st.walks
      counted_up zero e = let f = now_fewer in absurd (omega arith)
      counted_up (suc n) e =
          let f = now_fewer in
          let h = by_age st.now n r.patience st.pending (asked_open r st es j) (asked_past r st es j) (placed r st es j).older (omega arith) in
          omega arith

  pub place_left : r.patience ≤ 5 → (u : Question) → Memᴰ u st.walks → is_waiting (standing r st u) ≡ true → length st.pending < 96
  place_left l u m w = let h = place_for_it u m w in let f = (runs r st es j).1.few in omega arith
