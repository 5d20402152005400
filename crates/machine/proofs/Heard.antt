-- Hearing in the machine is hearing in the world, after forgetting where there was no room.
use Rattle.std.proofs.Common.{◌≡◌, ℕ, ◌≤◌, Bool, true, false, not, eqb, ◌⊎◌, List, ◌∷◌, ◌++◌, length, get_or, Some, None, Ok, Err, Option, sym, refl, ap, ◌∙◌, subst, inl, inr, ⊎_elim, arith}
use mathlib.Core.List.Memᴰ
use mathlib.Core.List.{Memᴰ}
use lib.ListN.{length-map}
use Rattle.names.specs.declared.fault.Fault.{Fault}
use Rattle.names.specs.declared.fault.Fault.TheVariants.{TooMuch, WrongApex}
use Rattle.std.proofs.lemmas.Bool.{cond-true, cond-false, and_parts, and_from, eqb-true, eq-eqb, not-true, not_from_false}
use Rattle.meaning.specs.Says.{same}
use Rattle.protocol.specs.Lists.{first}
use Rattle.protocol.specs.Words.{Name}
use Rattle.protocol.specs.World.{Rules, Query, Response, Entry, World, Event, Hears, Forgets, with_cache, matches, matching, closed, is_key, forgotten, entry_for, hear, world, Brought}
use Rattle.protocol.proofs.Lists.{first_some, first_found, kept_in, in_kept, any_none}
use Rattle.protocol.proofs.Steps.{inv}
use Rattle.machine.specs.Store.{Put, Kept, Ousted, NoRoom, put}
use Rattle.machine.specs.Machine as machine
use Rattle.machine.specs.Machine.{Question, Pending, State, queries_of, count_try, misfit, in_use, Heard, close_in, keep, heard_by, hear_fit, hear_for}
use Rattle.machine.specs.Refine.{SameMembers, Stands, drops, hearing}
use Rattle.machine.proofs.Alike.{in_map, sifted}
use Rattle.machine.proofs.Keys.{of_key, Left}
use Rattle.machine.proofs.Refining.{ok_is, err_ok}
use Rattle.machine.proofs.Storing.{store_laws}

-- ---- what it takes to be heard

pub record HeardSo (r : Rules) (y : Response) (st : State) (x : Pending) (h : Heard) : Type 0 where
  pub apex_is : same x.query.apex y.apex ≡ true
  pub fitting : misfit x.query y.word.said ≡ None
  pub stored : ((es : List Entry) × (put r (in_use r st) (entry_for st.now x.query y.word) st.cache ≡ Kept es) × (h.state ≡ keep r st x es))
      ⊎ ((i : ℕ) × (es : List Entry) × (put r (in_use r st) (entry_for st.now x.query y.word) st.cache ≡ Ousted i es) × (h.state ≡ keep r st x es))

abbrev pub Stored : Rules → Response → State → Pending → Heard → Type 0
Stored r y st x h =
    ((es : List Entry) × (put r (in_use r st) (entry_for st.now x.query y.word) st.cache ≡ Kept es) × (h.state ≡ keep r st x es))
    ⊎ ((i : ℕ) × (es : List Entry) × (put r (in_use r st) (entry_for st.now x.query y.word) st.cache ≡ Ousted i es) × (h.state ≡ keep r st x es))

stored_so : (r : Rules) (y : Response) (st : State) (x : Pending) (h : Heard) (p : Put) → put r (in_use r st) (entry_for st.now x.query y.word) st.cache ≡ p → heard_by r st x p ≡ Ok h → Stored r y st x h
stored_so r y st x h (Kept es) e g = inl (es, e, sym (ap (λ (z : Heard). z.state) (ok_is {B = Fault} (record { state = keep r st x es; ousted = false }) h g)))
stored_so r y st x h (Ousted i es) e g = inr (i, es, e, sym (ap (λ (z : Heard). z.state) (ok_is {B = Fault} (record { state = keep r st x es; ousted = true }) h g)))
stored_so r y st x h NoRoom e g = absurd (err_ok TooMuch h g)

fit_so : (r : Rules) (y : Response) (st : State) (x : Pending) (h : Heard) (o : Option Fault) → misfit x.query y.word.said ≡ o → hear_fit r st x y.word o ≡ Ok h → (misfit x.query y.word.said ≡ None) × Stored r y st x h
fit_so r y st x h (Some f) e g = absurd (err_ok f h g)
fit_so r y st x h None e g = (e, stored_so r y st x h (put r (in_use r st) (entry_for st.now x.query y.word) st.cache) refl g)

apex_so : (r : Rules) (y : Response) (st : State) (x : Pending) (h : Heard) (b : Bool) → same x.query.apex y.apex ≡ b → hear_for r st y (Some x) ≡ Ok h → HeardSo r y st x h
apex_so r y st x h true e g =
    let f = fit_so r y st x h (misfit x.query y.word.said) refl (sym (cond-true (same x.query.apex y.apex) (hear_fit r st x y.word (misfit x.query y.word.said)) (Err WrongApex) e) ∙ g) in
    record { apex_is = e; fitting = f.0; stored = f.1 }
apex_so r y st x h false e g = absurd (err_ok WrongApex h (sym (cond-false (same x.query.apex y.apex) (hear_fit r st x y.word (misfit x.query y.word.said)) (Err WrongApex) e) ∙ g))

pub heard_so : (r : Rules) (y : Response) (st : State) (x : Pending) (h : Heard) → first (λ (p : Pending). eqb p.query.id y.id) st.pending ≡ Some x → machine.hear r y st ≡ Ok h → HeardSo r y st x h
unfolding machine.hear
heard_so r y st x h f g = apex_so r y st x h (same x.query.apex y.apex) refl (sym (ap (hear_for r st y) f) ∙ g)

-- ---- the same in the world

module _ (r : Rules) (y : Response) (st : State) (es : List Event) (b : Brought r es) (said : Memᴰ y (world r es).responses) (s : Stands st (world r es)) (x : Pending) (found : first (λ (p : Pending). eqb p.query.id y.id) st.pending ≡ Some x) where
  abbrev w : World
  w = world r es

  abbrev q : Query
  q = x.query

  abbrev made : Entry
  made = entry_for st.now q y.word

  in_world : Memᴰ q w.pending
  in_world = (s.pending_is q).0 (in_map (λ (p : Pending). p.query) st.pending x (first_some (λ (p : Pending). eqb p.query.id y.id) st.pending x found).0)

  id_is : q.id ≡ y.id
  id_is = eqb-true q.id y.id (first_some (λ (p : Pending). eqb p.query.id y.id) st.pending x found).1

  matched : same q.apex y.apex ≡ true → matching y w.pending ≡ Some q
  matched a =
      let f = first_found (matches y) w.pending q in_world (and_from (eqb q.id y.id) (same q.apex y.apex) (eq-eqb q.id y.id id_is) a) in
      let g = first_some (matches y) w.pending f.0 f.1 in
      let i = inv r es b in
      let one : f.0 ≡ q = i.sent_once f.0 q (i.pending_sent f.0 g.0) (i.pending_sent q in_world) (eqb-true f.0.id y.id (and_parts (eqb f.0.id y.id) (same f.0.apex y.apex) g.1).0 ∙ sym id_is) in
      f.1 ∙ ap Some one

  closes : SameMembers (queries_of (close_in q.id st.pending)) (closed q.id w.pending)
  closes = sifted (λ (p : Pending). p.query) (λ (p : Pending). not (eqb p.query.id q.id)) (λ (p : Query). not (eqb p.id q.id)) st.pending w.pending (λ p. refl) s.pending_is

  few_still : length (keep r st x st.cache).walks ≤ 16
  few_still = let k = length-map st.walks (count_try r st x) in let f = s.few in omega arith

  -- an entry of the machine's cache beside those of another key, in the world's
  abbrev Beside : Name → Name → ℕ → List Entry → Entry → Type 0
  Beside a p k es f = (f ≡ made) ⊎ (Memᴰ f es × (is_key a p k f ≡ false))

  made_is : made ≡ entry_for w.now q y.word
  made_is = ap (λ n. entry_for n q y.word) s.now_is

  in_forgotten : (a p : Name) (k : ℕ) (f : Entry) → Memᴰ f st.cache → is_key a p k f ≡ false → Memᴰ f (forgotten a p k w.cache)
  in_forgotten a p k f m n = in_kept (λ (e : Entry). not (is_key a p k e)) w.cache f ((s.cache_is f).0 m) (not_from_false (is_key a p k f) n)

  of_forgotten : (a p : Name) (k : ℕ) (f : Entry) → Memᴰ f (forgotten a p k w.cache) → Memᴰ f st.cache × (is_key a p k f ≡ false)
  of_forgotten a p k f m =
      let g = kept_in (λ (e : Entry). not (is_key a p k e)) w.cache f m in
      ((s.cache_is f).1 g.0, not-true (is_key a p k f) g.1)

  stands_kept : (fs : List Entry) → put r (in_use r st) made st.cache ≡ Kept fs → same q.apex y.apex ≡ true → Stands (keep r st x fs) (world r (Hears y ∷ es))
  unfolding world
  stands_kept fs p a =
      let law = store_laws.kept r (in_use r st) made st.cache fs s.keys p in
      subst (Stands (keep r st x fs)) (sym (ap (λ o. hear y o (world r es)) (matched a)))
      (record {
        now_is = s.now_is;
        pending_is = closes;
        cache_is = λ f. (
          λ m. ⊎_elim (λ e. Memᴰ.head (e ∙ made_is)) (λ g. Memᴰ.tail (in_forgotten q.apex q.name q.kind f g.0 g.1)) ((law f).0 m),
          λ m. (law f).1 (⊎_elim (λ e. inl (e ∙ sym made_is)) (λ n. inr (of_forgotten q.apex q.name q.kind f n)) (Memᴰ.cases_cons m)),
        );
        keys = store_laws.keeps_keys r (in_use r st) made st.cache fs s.keys (inl p);
        room = store_laws.keeps_room r (in_use r st) made st.cache fs s.keys s.room (inl p);
        few = few_still;
      })

  stands_ousted : (i : ℕ) (fs : List Entry) (v : Entry) → put r (in_use r st) made st.cache ≡ Ousted i fs → same q.apex y.apex ≡ true →
      ((f : Entry) → Memᴰ f st.cache → of_key made f ≡ true → ⊥) → ((f : Entry) → (Memᴰ f fs → Left (of_key v) made st.cache f) × (Left (of_key v) made st.cache f → Memᴰ f fs)) →
      Stands (keep r st x fs) (world r (Hears y ∷ Forgets v.apex v.name v.kind ∷ es))
  unfolding world
  stands_ousted i fs v p a new law =
      let w1 = with_cache (world r es).pending (forgotten v.apex v.name v.kind (world r es).cache) (world r es) in
      subst (Stands (keep r st x fs)) (sym (ap (λ o. hear y o w1) (matched a)))
      (record {
        now_is = s.now_is;
        pending_is = closes;
        cache_is = λ f. (
          λ m. ⊎_elim (λ e. Memᴰ.head (e ∙ made_is)) (λ g. Memᴰ.tail (in_kept (λ (e : Entry). not (is_key q.apex q.name q.kind e)) (forgotten v.apex v.name v.kind (world r es).cache) f (in_forgotten v.apex v.name v.kind f g.0 g.1) (not_from_false (of_key made f) (no_key f g.0 (of_key made f) refl)))) ((law f).0 m),
          λ m. (law f).1 (⊎_elim (λ e. inl (e ∙ sym made_is)) (λ n. inr (of_forgotten v.apex v.name v.kind f (kept_in (λ (e : Entry). not (is_key q.apex q.name q.kind e)) (forgotten v.apex v.name v.kind (world r es).cache) f n).0)) (Memᴰ.cases_cons m)),
        );
        keys = store_laws.keeps_keys r (in_use r st) made st.cache fs s.keys (inr (i, p));
        room = store_laws.keeps_room r (in_use r st) made st.cache fs s.keys s.room (inr (i, p));
        few = few_still;
      })
    where
      no_key : (f : Entry) → Memᴰ f st.cache → (c : Bool) → of_key made f ≡ c → of_key made f ≡ false
      no_key f m true g = absurd (new f m g)
      no_key f m false g = g

  abbrev Result-of : State → List Event → Type 0
  Result-of t fs = Brought r (fs ++ es) × Stands t (world r (fs ++ es))

  pub stands_heard : (h : Heard) → HeardSo r y st x h → Result-of h.state (hearing r st y x)
  unfolding world
  stands_heard h so = go so.stored
    where
      go : Stored r y st x h → Result-of h.state (hearing r st y x)
      go (inl k) =
          subst (λ fs. Result-of h.state (Hears y ∷ fs)) (sym (ap (drops st.cache made) k.1))
          ((said, b), subst (λ t. Stands t (world r (Hears y ∷ es))) (sym k.2) (stands_kept k.0 k.1 so.apex_is))
      go (inr k) =
          let v = get_or st.cache k.0 made in
          let law = store_laws.ousted r (in_use r st) made st.cache k.1 k.0 s.keys k.2 in
          subst (λ fs. Result-of h.state (Hears y ∷ fs)) (sym (ap (drops st.cache made) k.2))
          ((said, (tt, b)), subst (λ t. Stands t (world r (Hears y ∷ Forgets v.apex v.name v.kind ∷ es))) (sym k.3) (stands_ousted k.0 k.1 v k.2 so.apex_is (any_none (of_key made) st.cache law.1) law.2))
