-- What the two sets on both sides of a place say is what all sets say.
use Rattle.std.proofs.Common.{◌≡◌, ℕ, zero, suc, ◌-◌, ◌<◌, ◌≤◌, Bool, true, false, cond, not, ◌||◌, eqb, ◌⊎◌, List, [], ◌∷◌, map, length, get_or, Some, None, Option, sym, refl, ap, ◌∙◌, subst, inl, inr, ⊎_elim, true≢false, arith}
use mathlib.Core.List.Memᴰ
use mathlib.Core.List.{Memᴰ}
use lib.ListN.{length-map}
use Rattle.std.proofs.lemmas.Bool.{and_from, and_parts, or_left, or_right, or_parts, not-true, cases_lt, cases_Bool, eq-eqb, eqb-true}
use Rattle.std.specs.List.{ItemBy}
use Rattle.std.specs.Option.{MatchOption}
use Rattle.names.specs.Order.{order, within, NotAfter}
use Rattle.names.proofs.Order.{order_laws}
use Rattle.names.proofs.Within.{within_itself, within_level}
use Rattle.meaning.specs.Model.{aliases, AliasOf, Set}
use Rattle.meaning.specs.Says.{Speaker, BySet, ByAlias, NoData, NoName, same, is_exactly, is_alias_at, find, any_under, or_else}
use Rattle.meaning.specs.Speech.{undelegated}
use Rattle.meaning.proofs.Finding.{Nothing, Found, some, none, finds, Below, one, no_one, looks_below}
use Rattle.meaning.proofs.Rules.{same_so, so_same}
use Rattle.zones.specs.Sorted.{sorted, place, set_at}
use Rattle.zones.specs.Valid.{clash, clashes, no_clash}
use Rattle.zones.specs.declared.reply.Reply.{Reply}
use Rattle.zones.specs.declared.reply.Reply.TheVariants as rust
use Rattle.zones.specs.Zones.{speaker_of, tells_data, tells_nothing}
use Rattle.zones.proofs.Places.{mem_at, index_of, place_within, before_place, at_place, read_at}
use Rattle.zones.proofs.ByPlace.{distinct, not_itself, exact_absent, not_less, up_to, names_rise}

-- ---- what one set says

pub data One (n : List (List ℕ)) (k : ℕ) (s : Set) : Speaker → Type 0 where
  is_data : is_exactly n k s ≡ true → One n k s (BySet s)
  is_alias : is_exactly n k s ≡ false → is_alias_at n s ≡ true → One n k s (ByAlias s)
  is_below : is_exactly n k s ≡ false → is_alias_at n s ≡ false → within n s.name ≡ true → One n k s NoData
  is_other_lem : within n s.name ≡ false → One n k s NoName

pub one_says : (n : List (List ℕ)) (k : ℕ) (s : Set) → One n k s (undelegated n k (s ∷ []))
unfolding find any_under
one_says n k s = go (is_exactly n k s) refl (is_alias_at n s) refl (within n s.name) refl
  where
    go : (x : Bool) → is_exactly n k s ≡ x → (a : Bool) → is_alias_at n s ≡ a → (w : Bool) → within n s.name ≡ w → One n k s (or_else BySet (cond x (Some s) None) (or_else ByAlias (cond a (Some s) None) (cond (w || false) NoData NoName)))
    go true e a f w g = is_data e
    go false e true f w g = is_alias e f
    go false e false f true g = is_below e f g
    go false e false f false g = is_other_lem g

-- ---- what searches of all sets find

module _ (ss : List Set) where
  find_none : (test : Set → Bool) → Nothing test ss → None ≡ find test ss
  find_none test h = go (find test ss) (finds test ss)
    where
      go : (x : Option Set) → Found test ss x → None ≡ x
      go x (some s m p) = absurd (h s m p)
      go x (none h) = refl

  pub find_one : (test : Set → Bool) (s : Set) → Memᴰ s ss → test s ≡ true → ((t : Set) → Memᴰ t ss → test t ≡ true → s ≡ t) → Some s ≡ find test ss
  find_one test s m h only = go (find test ss) (finds test ss)
    where
      go : (x : Option Set) → Found test ss x → Some s ≡ x
      go x (some t l p) = ap Some (only t l p)
      go x (none never) = absurd (never s m h)

  under_some : (n : List (List ℕ)) (s : Set) → Memᴰ s ss → within n s.name ≡ true → true ≡ any_under n ss
  under_some n s m w = go (any_under n ss) (looks_below n ss)
    where
      go : (b : Bool) → Below n ss b → true ≡ b
      go b (one t l p) = refl
      go b (no_one never) = absurd (never s m w)

  under_none : (n : List (List ℕ)) → Nothing (λ s. within n s.name) ss → false ≡ any_under n ss
  under_none n h = go (any_under n ss) (looks_below n ss)
    where
      go : (b : Bool) → Below n ss b → false ≡ b
      go b (one t l p) = absurd (h t l p)
      go b (no_one never) = refl

-- ---- an alias stands alone

no_clash_lem : (s t : Set) (ss : List Set) → clashes s ss ≡ false → Memᴰ t ss → clash s t ≡ false
no_clash_lem s t [] h m = absurd (Memᴰ.not-nil m)
no_clash_lem s t (u ∷ ss) h m =
    let p = or_parts (clash s u) (clashes s ss) h in
    ⊎_elim (λ e. ap (clash s) e ∙ p.0) (λ l. no_clash_lem s t ss p.1 l) (Memᴰ.cases_cons m)

pub clash_so : (s t : Set) → s.name ≡ t.name → (aliases s.kind || aliases t.kind) ≡ true → clash s t ≡ true
clash_so s t e a = and_from (same s.name t.name) (aliases s.kind || aliases t.kind) (so_same s.name t.name e) a

pub alone : (ss : List Set) → no_clash ss ≡ true → (s t : Set) → Memᴰ s ss → Memᴰ t ss → s.name ≡ t.name → aliases s.kind ≡ true → s ≡ t
alone [] h s t m l e a = absurd (Memᴰ.not-nil m)
alone (u ∷ ss) h s t m l e a = go (λ j k. alone ss (and_parts (not (clashes u ss)) (no_clash ss) h).1 s t j k e a) (Memᴰ.cases_cons m) (Memᴰ.cases_cons l)
  where
    p : (not (clashes u ss) ≡ true) × (no_clash ss ≡ true)
    p = and_parts (not (clashes u ss)) (no_clash ss) h

    never : (x : Set) → Memᴰ x ss → u.name ≡ x.name → (aliases u.kind || aliases x.kind) ≡ true → ⊥
    never x k f b = true≢false (sym (clash_so u x f b) ∙ no_clash_lem u x ss (not-true (clashes u ss) p.0) k)

    go : (Memᴰ s ss → Memᴰ t ss → s ≡ t) → (s ≡ u) ⊎ Memᴰ s ss → (t ≡ u) ⊎ Memᴰ t ss → s ≡ t
    go ih (inl f) (inl g) = f ∙ sym g
    go ih (inl f) (inr k) = absurd (never t k (ap (λ (x : Set). x.name) (sym f) ∙ e) (or_left (aliases u.kind) (aliases t.kind) (ap (λ (x : Set). aliases x.kind) (sym f) ∙ a)))
    go ih (inr j) (inl g) = absurd (never s j (ap (λ (x : Set). x.name) (sym g) ∙ sym e) (or_right (aliases u.kind) (aliases s.kind) a))
    go ih (inr j) (inr k) = ih j k

-- ---- both sides of the place

module _ (ss : List Set) (o : sorted ss ≡ true) (c : no_clash ss ≡ true) (n : List (List ℕ)) (k : ℕ) (d : Set) where
  -- the sets there
  abbrev pub here : Set
  here = get_or ss (place n k ss) d

  abbrev pub before : Set
  before = get_or ss (place n k ss - 1) d

  abbrev by : Option Set → Option Set → Bool → Speaker
  by e a u = or_else BySet e (or_else ByAlias a (cond u NoData NoName))

  before_name : 0 < place n k ss → NotAfter before.name n
  before_name l = up_to before n k (order before.name n) refl (before_place n k ss d (place n k ss - 1) (omega arith))

  -- whatever is at the name or below it has its name before the place, or is below it there
  pub sides : (s : Set) → Memᴰ s ss → within n s.name ≡ true → ((0 < place n k ss) × (before.name ≡ n)) ⊎ ((place n k ss < length ss) × (within n here.name ≡ true) × NotAfter here.name s.name)
  sides s m w = go (index_of ss d s m)
    where
      go : (i : ℕ) × (i < length ss) × (get_or ss i d ≡ s) → ((0 < place n k ss) × (before.name ≡ n)) ⊎ ((place n k ss < length ss) × (within n here.name ≡ true) × NotAfter here.name s.name)
      go a =
          let i = a.0 in
          let l = a.1 in
          let at : (get_or ss a.0 d).name ≡ s.name = ap (λ (x : Set). x.name) a.2 in
          let low : NotAfter n (get_or ss a.0 d).name = subst (NotAfter n) (sym at) (order_laws.above_first n s.name w) in
          ⊎_elim
          (λ (lt : a.0 < place n k ss).
          let pl = place_in in
          inl (omega arith, order_laws.antisymmetric before.name n (before_name (omega arith)) (order_laws.transitive n (get_or ss a.0 d).name before.name low (names_rise ss o d a.0 (place n k ss - 1) (omega arith) (omega arith)))))
          (λ (ge : place n k ss ≤ a.0).
          let rise : NotAfter here.name s.name = subst (NotAfter here.name) at (names_rise ss o d (place n k ss) a.0 ge l) in
          let lt : place n k ss < length ss = omega arith in
          inr (lt, order_laws.between n here.name s.name (not_less n k here (order here.name n) refl (at_place n k ss d lt)) rise w, rise))
          (cases_lt a.0 (place n k ss))
        where
          place_in : place n k ss ≤ length ss
          place_in = place_within n k ss

  alias_parts : (s : Set) → is_alias_at n s ≡ true → (s.name ≡ n) × (aliases s.kind ≡ true)
  alias_parts s h = let q = and_parts (same s.name n) (aliases s.kind) h in (same_so s.name n q.0, q.1)

  exact_parts : (s : Set) → is_exactly n k s ≡ true → (s.name ≡ n) × (s.kind ≡ k)
  exact_parts s h = let q = and_parts (same s.name n) (eqb s.kind k) h in (same_so s.name n q.0, eqb-true s.kind k q.1)

  exact_from : (s : Set) → s.name ≡ n → s.kind ≡ k → is_exactly n k s ≡ true
  exact_from s e f = and_from (same s.name n) (eqb s.kind k) (so_same s.name n e) (eq-eqb s.kind k f)

  no_exact : (place n k ss < length ss → is_exactly n k here ≡ false) → None ≡ find (is_exactly n k) ss
  no_exact h = exact_absent ss o n k d (λ l e f. true≢false (sym (exact_from here e f) ∙ h l))

  -- beside an alias there is no other set
  no_exact_alias : (s : Set) → Memᴰ s ss → is_alias_at n s ≡ true → is_exactly n k s ≡ false → None ≡ find (is_exactly n k) ss
  no_exact_alias s m a x =
      find_none ss (is_exactly n k) (λ t l p.
      let q = alias_parts s a in
      let e = exact_parts t p in
      let same_set = alone ss c s t m l (q.0 ∙ sym e.0) q.1 in
      true≢false (sym p ∙ ap (is_exactly n k) (sym same_set) ∙ x))

  the_alias : (s : Set) → Memᴰ s ss → is_alias_at n s ≡ true → Some s ≡ find (is_alias_at n) ss
  the_alias s m a = find_one ss (is_alias_at n) s m a (λ t l p. let q = alias_parts s a in let r = alias_parts t p in alone ss c s t m l (q.0 ∙ sym r.0) q.1)

  pub says_data : place n k ss < length ss → is_exactly n k here ≡ true → BySet here ≡ undelegated n k ss
  says_data l h =
      let m = mem_at ss d (place n k ss) l in
      let e = exact_parts here h in
      ap (λ x. by x (find (is_alias_at n) ss) (any_under n ss)) (find_one ss (is_exactly n k) here m h (λ t j p. let q = exact_parts t p in distinct ss o here t m j (e.0 ∙ sym q.0) (e.1 ∙ sym q.1)))

  tells_alias : (s : Set) → Memᴰ s ss → is_alias_at n s ≡ true → is_exactly n k s ≡ false → ByAlias s ≡ undelegated n k ss
  tells_alias s m a x = λ i. by (no_exact_alias s m a x i) (the_alias s m a i) (any_under n ss)

  pub says_before : (r : Speaker) → 0 < place n k ss → (place n k ss < length ss → is_exactly n k here ≡ false) → One n k before r → (r ≡ NoName → ⊥) → r ≡ undelegated n k ss
  says_before r l h (is_data e) never =
      let q = exact_parts before e in
      absurd (true≢false (sym (before_place n k ss d (place n k ss - 1) (omega arith)) ∙ not_itself n k before q.0 q.1))
  says_before r l h (is_alias x a) never = tells_alias before (mem_at ss d (place n k ss - 1) (before_in l)) a x
    where
      before_in : 0 < place n k ss → place n k ss - 1 < length ss
      before_in q = let pl = place_within n k ss in omega arith
  says_before r l h (is_below x a w) never = λ i. by (no_exact h i) (find_none ss (is_alias_at n) no_alias i) (under_some ss n before m w i)
    where
      m : Memᴰ before ss
      m = let pl = place_within n k ss in mem_at ss d (place n k ss - 1) (omega arith)

      named : before.name ≡ n
      named = order_laws.antisymmetric before.name n (before_name l) (order_laws.above_first n before.name w)

      no_alias : Nothing (is_alias_at n) ss
      no_alias t j p = let q = alias_parts t p in true≢false (sym p ∙ ap (is_alias_at n) (alone ss c t before j m (q.0 ∙ sym named) q.1) ∙ a)
  says_before r l h (is_other_lem w) never = absurd (never refl)

  -- nothing before the place is at the name
  module _ (free : 0 < place n k ss → within n before.name ≡ false) where
    right : (s : Set) → Memᴰ s ss → within n s.name ≡ true → (place n k ss < length ss) × (within n here.name ≡ true) × NotAfter here.name s.name
    right s m w = ⊎_elim (λ (l : (0 < place n k ss) × (before.name ≡ n)). absurd (true≢false (sym (subst (λ x. within n x ≡ true) (sym l.1) (within_itself n)) ∙ free l.0))) (λ r. r) (sides s m w)

    nothing_under : (place n k ss < length ss → within n here.name ≡ false) → NoName ≡ undelegated n k ss
    nothing_under h = λ i. by (find_none ss (is_exactly n k) (λ s m p. never s m (subst (λ x. within n x ≡ true) (sym (exact_parts s p).0) (within_itself n))) i) (find_none ss (is_alias_at n) (λ s m p. never s m (subst (λ x. within n x ≡ true) (sym (alias_parts s p).0) (within_itself n))) i) (under_none ss n never i)
      where
        never : Nothing (λ s. within n s.name) ss
        never s m w = let r = right s m w in true≢false (sym r.1 ∙ h r.0)

    pub says_past : length ss ≤ place n k ss → NoName ≡ undelegated n k ss
    says_past l = nothing_under (λ q. absurd (omega arith))

    pub says_here : (r : Speaker) → place n k ss < length ss → One n k here r → r ≡ undelegated n k ss
    says_here r l (is_data e) = says_data l e
    says_here r l (is_alias x a) = tells_alias here (mem_at ss d (place n k ss) l) a x
    says_here r l (is_below x a w) = λ i. by (no_exact (λ q. x) i) (find_none ss (is_alias_at n) no_alias i) (under_some ss n here (mem_at ss d (place n k ss) l) w i)
      where
        no_alias : Nothing (is_alias_at n) ss
        no_alias t j p =
            let q = alias_parts t p in
            let r = right t j (subst (λ x. within n x ≡ true) (sym q.0) (within_itself n)) in
            let named = order_laws.antisymmetric n here.name (order_laws.above_first n here.name r.1) (subst (NotAfter here.name) q.0 r.2) in
            true≢false (sym p ∙ ap (is_alias_at n) (alone ss c t here j (mem_at ss d (place n k ss) l) (q.0 ∙ named) q.1) ∙ a)
    says_here r l (is_other_lem w) = nothing_under (λ q. w)

-- ---- as the code tells it

module _ (n : List (List ℕ)) (k : ℕ) (s : Set) where
  exact_within : is_exactly n k s ≡ true → (within n s.name ≡ true) × (s.name ≡ n) × (s.kind ≡ k)
  exact_within h =
      let q = and_parts (same s.name n) (eqb s.kind k) h in
      let e = same_so s.name n q.0 in
      (subst (λ x. within n x ≡ true) (sym e) (within_itself n), e, eqb-true s.kind k q.1)

  alias_within : is_alias_at n s ≡ true → (within n s.name ≡ true) × (s.name ≡ n) × (aliases s.kind ≡ true)
  alias_within h =
      let q = and_parts (same s.name n) (aliases s.kind) h in
      let e = same_so s.name n q.0 in
      (subst (λ x. within n x ≡ true) (sym e) (within_itself n), e, q.1)

  pub of_other : within n s.name ≡ false → NoName ≡ undelegated n k (s ∷ [])
  of_other w = go (undelegated n k (s ∷ [])) (one_says n k s)
    where
      go : (r : Speaker) → One n k s r → NoName ≡ r
      go r (is_data x) = absurd (true≢false (sym (exact_within x).0 ∙ w))
      go r (is_alias x a) = absurd (true≢false (sym (alias_within a).0 ∙ w))
      go r (is_below x a v) = absurd (true≢false (sym v ∙ w))
      go r (is_other_lem v) = refl

  pub of_below : within n s.name ≡ true → (length s.name ≡ length n → ⊥) → NoData ≡ undelegated n k (s ∷ [])
  of_below w l = go (undelegated n k (s ∷ [])) (one_says n k s)
    where
      go : (r : Speaker) → One n k s r → NoData ≡ r
      go r (is_data x) = absurd (l (ap length (exact_within x).1))
      go r (is_alias x a) = absurd (l (ap length (alias_within a).1))
      go r (is_below x a v) = refl
      go r (is_other_lem v) = absurd (true≢false (sym w ∙ v))

  module _ (w : within n s.name ≡ true) (l : length s.name ≡ length n) where
    named : same s.name n ≡ true
    named = so_same s.name n (sym (within_level n s.name w (sym l)))

    pub of_data : s.kind ≡ k → BySet s ≡ undelegated n k (s ∷ [])
    of_data e = go (undelegated n k (s ∷ [])) (one_says n k s)
      where
        exact : is_exactly n k s ≡ true
        exact = and_from (same s.name n) (eqb s.kind k) named (eq-eqb s.kind k e)

        go : (r : Speaker) → One n k s r → BySet s ≡ r
        go r (is_data x) = refl
        go r (is_alias x a) = absurd (true≢false (sym exact ∙ x))
        go r (is_below x a v) = absurd (true≢false (sym exact ∙ x))
        go r (is_other_lem v) = absurd (true≢false (sym w ∙ v))

    pub of_alias : (s.kind ≡ k → ⊥) → aliases s.kind ≡ true → ByAlias s ≡ undelegated n k (s ∷ [])
    of_alias e h = go (undelegated n k (s ∷ [])) (one_says n k s)
      where
        go : (r : Speaker) → One n k s r → ByAlias s ≡ r
        go r (is_data x) = absurd (e (exact_within x).2)
        go r (is_alias x a) = refl
        go r (is_below x a v) = absurd (true≢false (sym (and_from (same s.name n) (aliases s.kind) named h) ∙ a))
        go r (is_other_lem v) = absurd (true≢false (sym w ∙ v))

    pub of_empty : (s.kind ≡ k → ⊥) → aliases s.kind ≡ false → NoData ≡ undelegated n k (s ∷ [])
    of_empty e h = go (undelegated n k (s ∷ [])) (one_says n k s)
      where
        go : (r : Speaker) → One n k s r → NoData ≡ r
        go r (is_data x) = absurd (e (exact_within x).2)
        go r (is_alias x a) = absurd (true≢false (sym (alias_within a).2 ∙ h))
        go r (is_below x a v) = refl
        go r (is_other_lem v) = absurd (true≢false (sym w ∙ v))

-- the set at an index, or none
pub at_index : (ss : List Set) (i : ℕ) (d : Set) → i < length ss → set_at i ss ≡ get_or ss i d ∷ []
at_index [] i d l = absurd (omega arith)
at_index (s ∷ ss) zero d l = refl
at_index (s ∷ ss) (suc i) d l = at_index ss i d (omega arith)

pub past_index : (ss : List Set) (i : ℕ) → length ss ≤ i → set_at i ss ≡ []
past_index [] zero l = refl
past_index [] (suc i) l = refl
past_index (s ∷ ss) zero l = absurd (omega arith)
past_index (s ∷ ss) (suc i) l = past_index ss i (omega arith)

pub nothing_there : (n : List (List ℕ)) (k i : ℕ) (ss : List Set) → length ss ≤ i → NoName ≡ undelegated n k (set_at i ss)
unfolding find any_under
nothing_there n k i ss l = ap (undelegated n k) (sym (past_index ss i l))

pub set_there : {X : Type 0} (f : X → Set) (xs : List X) (i : ℕ) (x : X) → i < length xs → x ≡ get_or xs i x → f x ∷ [] ≡ set_at i (map f xs)
set_there f xs i x l e = let m = length-map xs f in sym (at_index (map f xs) i (f x) (omega arith) ∙ ap (λ s. s ∷ []) (read_at f xs i x l e))

pub there_by : {R X : Type 0} (now : R → X) (f : X → Set) (xs : List X) (n : List (List ℕ)) (k i : ℕ) (r : Option R) (b : Reply) (P : R → Type 0) → ItemBy now xs i i r → MatchOption r (b ≡ rust.NoName) P → ((x : R) → P x → speaker_of b ≡ undelegated n k (f (now x) ∷ [])) → speaker_of b ≡ undelegated n k (set_at i (map f xs))
there_by now f xs n k i None b P h e by = let m = length-map xs f in let l = h.3 in ap speaker_of e ∙ nothing_there n k i (map f xs) (omega arith)
there_by now f xs n k i (Some x) b P h e by = by x e ∙ ap (undelegated n k) (set_there f xs i (now x) h.3.0 h.1)

module _ (ss : List Set) (o : sorted ss ≡ true) (c : no_clash ss ≡ true) (n : List (List ℕ)) (k i : ℕ) (at : i ≡ place n k ss) where
  any : Set
  any = record { name = []; kind = 0; ttl = 0; content = AliasOf [] }

  view : (j : ℕ) → j < length ss → One n k (get_or ss j any) (undelegated n k (set_at j ss))
  view j l = subst (λ ts. One n k (get_or ss j any) (undelegated n k ts)) (sym (at_index ss j any l)) (one_says n k (get_or ss j any))

  by_place : One n k (get_or ss i any) (undelegated n k (set_at i ss)) → One n k (here ss o c n k any) (undelegated n k (set_at i ss))
  by_place v = subst (λ j. One n k (get_or ss j any) (undelegated n k (set_at i ss))) at v

  exact_false : (s : Set) (r : Speaker) → One n k s r → tells_data r ≡ false → is_exactly n k s ≡ false
  exact_false s r (is_data x) f = absurd (true≢false f)
  exact_false s r (is_alias x a) f = x
  exact_false s r (is_below x a w) f = x
  exact_false s r (is_other_lem w) f = ⊎_elim (λ x. absurd (true≢false (sym (exact_within n k s x).0 ∙ w))) (λ g. g) (cases_Bool (is_exactly n k s))

  -- data in its place
  pub tells_here : tells_data (undelegated n k (set_at i ss)) ≡ true → undelegated n k (set_at i ss) ≡ undelegated n k ss
  tells_here h =
      ⊎_elim (λ l. go (undelegated n k (set_at i ss)) (by_place (view i l)) h (subst (λ j. j < length ss) at l))
      (λ l. absurd (true≢false (sym h ∙ ap tells_data (sym (nothing_there n k i ss l))))) (cases_lt i (length ss))
    where
      go : (r : Speaker) → One n k (here ss o c n k any) r → tells_data r ≡ true → place n k ss < length ss → r ≡ undelegated n k ss
      go r (is_data x) h l = says_data ss o c n k any l x
      go r (is_alias x a) h l = absurd (true≢false (sym h))
      go r (is_below x a w) h l = absurd (true≢false (sym h))
      go r (is_other_lem w) h l = absurd (true≢false (sym h))

  -- nothing before the place speaks
  unless_before : (0 < place n k ss → within n (before ss o c n k any).name ≡ false) → undelegated n k (set_at i ss) ≡ undelegated n k ss
  unless_before free =
      ⊎_elim (λ l. says_here ss o c n k any free (undelegated n k (set_at i ss)) (subst (λ j. j < length ss) at l) (by_place (view i l)))
      (λ l. sym (nothing_there n k i ss l) ∙ says_past ss o c n k any free (subst (λ j. length ss ≤ j) at l)) (cases_lt i (length ss))

  pub tells_first : i ≡ 0 → undelegated n k (set_at i ss) ≡ undelegated n k ss
  tells_first z = unless_before (λ l. absurd (omega arith))

  before_view : 0 < i → One n k (before ss o c n k any) (undelegated n k (set_at (i - 1) ss))
  before_view l =
      let pl = place_within n k ss in
      subst (λ j. One n k (get_or ss (j - 1) any) (undelegated n k (set_at (i - 1) ss))) at (view (i - 1) (omega arith))

  pub tells_after : 0 < i → tells_nothing (undelegated n k (set_at (i - 1) ss)) ≡ true → undelegated n k (set_at i ss) ≡ undelegated n k ss
  tells_after l h = unless_before (λ _. go (undelegated n k (set_at (i - 1) ss)) (before_view l) h)
    where
      go : (r : Speaker) → One n k (before ss o c n k any) r → tells_nothing r ≡ true → within n (before ss o c n k any).name ≡ false
      go r (is_data x) h = absurd (true≢false (sym h))
      go r (is_alias x a) h = absurd (true≢false (sym h))
      go r (is_below x a w) h = absurd (true≢false (sym h))
      go r (is_other_lem w) h = w

  pub tells_before : 0 < i → tells_data (undelegated n k (set_at i ss)) ≡ false → tells_nothing (undelegated n k (set_at (i - 1) ss)) ≡ false → undelegated n k (set_at (i - 1) ss) ≡ undelegated n k ss
  tells_before l f g =
      says_before ss o c n k any (undelegated n k (set_at (i - 1) ss)) (omega arith)
      (λ q. exact_false (here ss o c n k any) (undelegated n k (set_at i ss)) (by_place (view i (omega arith))) f)
      (before_view l) (λ e. true≢false (sym (ap tells_nothing e) ∙ g))
