-- A drawn id: the youngest question that wants a query, and the query that is sent.
use Rattle.std.proofs.Common.{◌≡◌, ℕ, ◌<◌, Bool, true, false, cond, not, ◌||◌, eqb, leb, List, [], ◌∷◌, ◌++◌, map, length, get_or, is_some, Some, None, Ok, Err, Option, Result, sym, refl, ap, ◌∙◌, arith}
use mathlib.Core.List.{map-append}
use Rattle.std.specs.Option.{option_or, option_map}
use Rattle.names.specs.declared.fault.Fault.{Fault}
use Rattle.names.specs.declared.fault.Fault.TheVariants.{Malformed}
use Rattle.protocol.specs.Lists.{first, any}
use Rattle.machine.proofs.Standings.{wants_so, some_servers}
use Rattle.std.proofs.lemmas.Bool.{cond-true, cond-false}
use Rattle.protocol.specs.Words.{Name, Server}
use Rattle.protocol.specs.World.{Rules, Entry, query_for}
use Rattle.machine.specs.Machine as machine
use Rattle.machine.specs.Machine.{max_pending, Tried, Question, Pending, State, standing, with_walks, count_tries, last_of, is_waiting, place_for, Sent, send, send_for, send_on, is_pending, draw}
use Rattle.resolver.specs.declared.answer.Standing.{Standing}
use Rattle.resolver.specs.declared.answer.Standing.TheVariants as stands
use Rattle.resolver.specs.declared.answer.Wanted.{Wanted}
use Rattle.resolver.specs.Resolvers.{standing_for}

module _ {A : Type 0} (test : A → Bool) where
  abbrev passing : A → Option A
  passing x = cond (test x) (Some x) None

  or_none : (o : Option A) → o ≡ option_or o None
  or_none None = refl
  or_none (Some x) = refl

  or_or : (o p q : Option A) → option_or (option_or o p) q ≡ option_or o (option_or p q)
  or_or None p q = refl
  or_or (Some x) p q = refl

  -- the last element is looked at first
  last_push : (xs : List A) (x : A) → last_of test (xs ++ (x ∷ [])) ≡ option_or (passing x) (last_of test xs)
  unfolding last_of
  last_push [] x = or_none (passing x)
  last_push (y ∷ ys) x = ap (λ o. option_or o (passing y)) (last_push ys x) ∙ or_or (passing x) (last_of test ys) (passing y)

  pub none_left : {X : Type 0} (f : X → A) (xs : List X) → length xs ≡ 0 → last_of test (map f xs) ≡ None
  unfolding last_of
  none_left f [] e = refl
  none_left f (x ∷ xs) e = absurd (omega arith)

  module _ {X : Type 0} (f : X → A) (xs ys : List X) (x : X) (split : xs ≡ ys ++ (x ∷ [])) where
    seen : last_of test (map f xs) ≡ option_or (passing (f x)) (last_of test (map f ys))
    seen = ap (λ zs. last_of test (map f zs)) split ∙ ap (last_of test) (map-append f ys (x ∷ [])) ∙ last_push (map f ys) (f x)

    pub not_this : test (f x) ≡ false → last_of test (map f xs) ≡ last_of test (map f ys)
    not_this t = seen ∙ ap (λ o. option_or o (last_of test (map f ys))) (cond-false (test (f x)) (Some (f x)) None t)

    pub this_one : test (f x) ≡ true → last_of test (map f xs) ≡ Some (f x)
    this_one t = seen ∙ ap (λ o. option_or o (last_of test (map f ys))) (cond-true (test (f x)) (Some (f x)) None t)

-- a standing of the code's that wants nothing is none of the machine's that does
pub not_waiting : (roots : List Server) (es : List Entry) (x : Standing) → ((w : Wanted) → x ≡ stands.Wants w → ⊥) → is_waiting (standing_for roots es x) ≡ false
not_waiting roots es (stands.Done o) h = refl
not_waiting roots es (stands.Awaits key) h = refl
not_waiting roots es (stands.Wants w) h = absurd (h w refl)

pub wish_is : (r : Rules) (st : State) (u : Question) (k : ℕ) (s : machine.Standing) → k ≡ u.kind → s ≡ standing r st u → ◌≡◌ {A = Option (ℕ × machine.Standing)} (Some (k, s)) (Some (u.kind, standing r st u))
wish_is r st u k s e f = λ i. Some (e i, f i)

-- ---- the ways of a drawn id

any_first : {A : Type 0} (test : A → Bool) (xs : List A) → any test xs ≡ is_some (first test xs)
unfolding any first
any_first test [] = refl
any_first {A} test (x ∷ xs) = go (any_first test xs) (test x) refl
  where
    go : any test xs ≡ is_some (first test xs) → (b : Bool) → test x ≡ b → (test x || any test xs) ≡ is_some (cond (test x) (Some x) (first test xs))
    go ih true e = ap (λ b. b || any test xs) e ∙ sym (ap is_some (cond-true (test x) (Some x) (first test xs) e))
    go ih false e = ap (λ b. b || any test xs) e ∙ ih ∙ sym (ap is_some (cond-false (test x) (Some x) (first test xs) e))

some_mapped : {A B : Type 0} (f : A → B) (o : Option A) → is_some o ≡ is_some (option_map f o)
some_mapped f None = refl
some_mapped f (Some x) = refl

-- an id is pending or not, as was found
pub pending_if : {X : Type 0} (f : X → Pending) (n : ℕ) (ps : List Pending) (o : Option X) (b : Bool) → option_map f o ≡ first (λ (x : Pending). eqb x.query.id n) ps → b ≡ is_some o → is_pending n ps ≡ b
pending_if f n ps o b e told = any_first (λ (x : Pending). eqb x.query.id n) ps ∙ sym (ap is_some e) ∙ sym (some_mapped f o) ∙ sym told

module _ (r : Rules) (n : ℕ) (st : State) where
  abbrev test : Question → Bool
  test u = is_waiting (standing r st u)

  abbrev idle : Result Sent Fault
  idle = Ok (record { state = st; query = None })

  abbrev goes : Result Sent Fault
  goes = Ok (send_on r n st (last_of test st.walks))

  pub draw_refused : is_pending n st.pending ≡ true → draw r n st ≡ Err Malformed
  unfolding draw
  draw_refused e = cond-true (is_pending n st.pending) (Err Malformed) (cond (leb max_pending (length st.pending)) idle goes) e

  pub draw_full : is_pending n st.pending ≡ false → leb max_pending (length st.pending) ≡ true → draw r n st ≡ Ok (record { state = st; query = None })
  unfolding draw
  draw_full e f = cond-false (is_pending n st.pending) (Err Malformed) (cond (leb max_pending (length st.pending)) idle goes) e ∙ cond-true (leb max_pending (length st.pending)) idle goes f

  draw_goes : is_pending n st.pending ≡ false → leb max_pending (length st.pending) ≡ false → draw r n st ≡ goes
  unfolding draw
  draw_goes e f = cond-false (is_pending n st.pending) (Err Malformed) (cond (leb max_pending (length st.pending)) idle goes) e ∙ cond-false (leb max_pending (length st.pending)) idle goes f

  abbrev wish : Question → ℕ × machine.Standing
  wish u = (u.kind, standing r st u)

  none_wants : (o : Option Question) → None ≡ option_map wish o → o ≡ None
  none_wants None e = refl
  none_wants (Some u) e = let w : ◌≡◌ {A = ℕ} 0 1 = cc in absurd (omega arith)

  pub draw_none : is_pending n st.pending ≡ false → leb max_pending (length st.pending) ≡ false → None ≡ option_map wish (last_of test st.walks) → draw r n st ≡ Ok (record { state = st; query = None })
  draw_none e f h = draw_goes e f ∙ ap (λ o. Ok (send_on r n st o)) (none_wants (last_of test st.walks) h)

  -- who wants it
  some_wants : (o : Option Question) (p : ℕ × machine.Standing) → Some p ≡ option_map wish o → (u : Question) × (o ≡ Some u) × (p ≡ wish u)
  some_wants None p e = let w : ◌≡◌ {A = ℕ} 0 1 = cc in absurd (omega arith)
  some_wants (Some u) p e = (u, refl, some_so p (wish u) e)
    where
      some_so : (x y : ℕ × machine.Standing) → ◌≡◌ {A = Option (ℕ × machine.Standing)} (Some x) (Some y) → x ≡ y
      some_so x y h = cc

  module _ (k : ℕ) (a p : Name) (ss : List Server) (o : Option Tried) (h : ◌≡◌ {A = Option (ℕ × machine.Standing)} (Some (k, machine.Wants a p ss o)) (option_map wish (last_of test st.walks))) where
    pub has_servers : 0 < length ss
    has_servers =
        let w = some_wants (last_of test st.walks) (k, machine.Wants a p ss o) h in
        some_servers ss o (wants_so r st w.0 a p ss o (sym (ap (λ (x : ℕ × machine.Standing). x.1) w.2))).try_left

    pub draw_sends : (x : Pending) → is_pending n st.pending ≡ false → leb max_pending (length st.pending) ≡ false → x ≡ record { query = query_for n (get_or ss (place_for n (length ss) o) []) a p k st.now; place = place_for n (length ss) o } → draw r n st ≡ Ok (send r st x)
    draw_sends x e f i =
        let w = some_wants (last_of test st.walks) (k, machine.Wants a p ss o) h in
        draw_goes e f ∙ ap (λ q. Ok (send_on r n st q)) w.1 ∙ ap (λ s. Ok (send_for r n st w.0 s)) (sym (ap (λ (y : ℕ × machine.Standing). y.1) w.2))
        ∙ ap (λ m. Ok (send r st (record { query = query_for n (get_or ss (place_for n (length ss) o) []) a p m st.now; place = place_for n (length ss) o }))) (sym (ap (λ (y : ℕ × machine.Standing). y.0) w.2))
        ∙ ap (λ y. Ok (send r st y)) (sym i)

-- one more pending, after the tries were counted
pub added : (r : Rules) (st : State) (x : Pending) (s : State) (ps : List Pending) (b : Bool) → s ≡ with_walks (count_tries r st x st.walks) st → b ≡ not (leb max_pending (length s.pending)) → ps ≡ cond b (s.pending ++ (x ∷ [])) s.pending → leb max_pending (length st.pending) ≡ false → record { now = s.now; pending = ps; cache = s.cache; walks = s.walks } ≡ (send r st x).state
added r st x s ps b e told table room =
    let kept_table : s.pending ≡ st.pending = ap (λ (y : State). y.pending) e in
    let yes_added : b ≡ true = told ∙ ap (λ qs. not (leb max_pending (length qs))) kept_table ∙ ap not room in
    let all : ps ≡ st.pending ++ (x ∷ []) = table ∙ cond-true b (s.pending ++ (x ∷ [])) s.pending yes_added ∙ ap (λ qs. qs ++ (x ∷ [])) kept_table in
    λ i. record { now = (e i).now; pending = all i; cache = (e i).cache; walks = (e i).walks }
