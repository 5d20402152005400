-- The laws of what a zone says.
use Rattle.std.proofs.Common.{◌≡◌, ℕ, ◌<◌, ◌≤◌, Bool, true, false, cond, not, ◌&&◌, eqb, ◌⊎◌, List, [], ◌∷◌, length, Some, None, Option, sym, refl, ap, ◌∙◌, subst, inl, inr, ⊎_elim, true≢false, arith, length-append}
use mathlib.Core.List.Memᴰ
use mathlib.Core.List.{Memᴰ}
use Rattle.std.proofs.lemmas.Bool.{cond-true, cond-false, and_from, eqb-true, eq-eqb, not_from_true, not_from_false, cases_lt}
use Rattle.names.specs.Order.{within}
use Rattle.names.proofs.Within.{within_laws, within_itself}
use Rattle.meaning.specs.Model.{Set, Zone}
use Rattle.meaning.specs.Says.{Speaker, ByDelegation, BySet, ByAlias, NoName, Over, Exactly, AliasAt, Under, No, Rule, refers, tells, points, empty, absent, same, is_over, highest, speaker, says, Distinct}
use Rattle.meaning.specs.Laws.{is_other, is_hidden, keep, unhidden, SaysLaws}
use Rattle.meaning.proofs.Finding.{Highest, high, none_high, finds_highest}
use Rattle.meaning.proofs.Rules.{sound, unique, one_above, so_over, over_so, so_same}

-- ---- a rule for each answer

pub says_within : (z : Zone) (q : List (List ℕ)) (k : ℕ) → within z.apex q ≡ true → says z q k ≡ Some (speaker z q k)
unfolding says
says_within z q k h = cond-true (within z.apex q) (Some (speaker z q k)) None h

some_so : {A : Type 0} (x y : A) → Some x ≡ Some y → x ≡ y
some_so x y h = cc

spoken : (z : Zone) (q : List (List ℕ)) (k : ℕ) (a : Speaker) → says z q k ≡ Some a → (within z.apex q ≡ true) × (speaker z q k ≡ a)
unfolding says
spoken z q k a h = go (within z.apex q) refl
  where
    go : (b : Bool) → within z.apex q ≡ b → (within z.apex q ≡ true) × (speaker z q k ≡ a)
    go true e = (e, some_so (speaker z q k) a (sym (cond-true (within z.apex q) (Some (speaker z q k)) None e) ∙ h))
    go false e =
        let s : ◌≡◌ {A = Option Speaker} None (Some a) = sym (cond-false (within z.apex q) (Some (speaker z q k)) None e) ∙ h in
        let w : ◌≡◌ {A = ℕ} 0 1 = cc in absurd (omega arith)

ruled : (z : Zone) (q : List (List ℕ)) (k : ℕ) (a : Speaker) → says z q k ≡ Some a → Rule z q k a
ruled z q k a h = subst (Rule z q k) (spoken z q k a h).1 (sound z q k)

by_rule : (z : Zone) → Distinct z → (q : List (List ℕ)) (k : ℕ) (a : Speaker) → within z.apex q ≡ true → Rule z q k a → says z q k ≡ Some a
by_rule z d q k a h r = says_within z q k h ∙ ap Some (unique z d q k (speaker z q k) a (sound z q k) r)

-- ---- what each rule gives back

over_of : (z : Zone) (q : List (List ℕ)) (k : ℕ) (s : Set) (a : Speaker) → Rule z q k a → a ≡ ByDelegation s → Over z q s
over_of z q k s a (refers t o l) e = let f : t ≡ s = cc in subst (Over z q) f o
over_of z q k s a (tells t n x) e = let w : ◌≡◌ {A = ℕ} 0 1 = cc in absurd (omega arith)
over_of z q k s a (points t n x y) e = let w : ◌≡◌ {A = ℕ} 0 1 = cc in absurd (omega arith)
over_of z q k s a (empty t n x y u) e = let w : ◌≡◌ {A = ℕ} 0 1 = cc in absurd (omega arith)
over_of z q k s a (absent n x y u) e = let w : ◌≡◌ {A = ℕ} 0 1 = cc in absurd (omega arith)

least_of_lem : (z : Zone) (q : List (List ℕ)) (k : ℕ) (s : Set) (a : Speaker) → Rule z q k a → a ≡ ByDelegation s → (t : Set) → Over z q t → length s.name ≤ length t.name
least_of_lem z q k s a (refers u o l) e t p = let f : u ≡ s = cc in subst (λ x. length x.name ≤ length t.name) f (l t p)
least_of_lem z q k s a (tells u n x) e t p = let w : ◌≡◌ {A = ℕ} 0 1 = cc in absurd (omega arith)
least_of_lem z q k s a (points u n x y) e t p = let w : ◌≡◌ {A = ℕ} 0 1 = cc in absurd (omega arith)
least_of_lem z q k s a (empty u n x y v) e t p = let w : ◌≡◌ {A = ℕ} 0 1 = cc in absurd (omega arith)
least_of_lem z q k s a (absent n x y v) e t p = let w : ◌≡◌ {A = ℕ} 0 1 = cc in absurd (omega arith)

set_of_lem : (z : Zone) (q : List (List ℕ)) (k : ℕ) (s : Set) (a : Speaker) → Rule z q k a → a ≡ BySet s → Exactly z q k s
set_of_lem z q k s a (tells t n x) e = let f : t ≡ s = cc in subst (Exactly z q k) f x
set_of_lem z q k s a (refers t o l) e = let w : ◌≡◌ {A = ℕ} 0 1 = cc in absurd (omega arith)
set_of_lem z q k s a (points t n x y) e = let w : ◌≡◌ {A = ℕ} 0 1 = cc in absurd (omega arith)
set_of_lem z q k s a (empty t n x y u) e = let w : ◌≡◌ {A = ℕ} 0 1 = cc in absurd (omega arith)
set_of_lem z q k s a (absent n x y u) e = let w : ◌≡◌ {A = ℕ} 0 1 = cc in absurd (omega arith)

alias_from : (z : Zone) (q : List (List ℕ)) (k : ℕ) (s : Set) (a : Speaker) → Rule z q k a → a ≡ ByAlias s → AliasAt z q s × No (Exactly z q k)
alias_from z q k s a (points t n x y) e = let f : t ≡ s = cc in (subst (AliasAt z q) f y, x)
alias_from z q k s a (refers t o l) e = let w : ◌≡◌ {A = ℕ} 0 1 = cc in absurd (omega arith)
alias_from z q k s a (tells t n x) e = let w : ◌≡◌ {A = ℕ} 0 1 = cc in absurd (omega arith)
alias_from z q k s a (empty t n x y u) e = let w : ◌≡◌ {A = ℕ} 0 1 = cc in absurd (omega arith)
alias_from z q k s a (absent n x y u) e = let w : ◌≡◌ {A = ℕ} 0 1 = cc in absurd (omega arith)

nothing_of : (z : Zone) (q : List (List ℕ)) (k : ℕ) (a : Speaker) → Rule z q k a → a ≡ NoName → No (Over z q) × No (Under z q)
nothing_of z q k a (absent n x y u) e = (n, u)
nothing_of z q k a (refers t o l) e = let w : ◌≡◌ {A = ℕ} 0 1 = cc in absurd (omega arith)
nothing_of z q k a (tells t n x) e = let w : ◌≡◌ {A = ℕ} 0 1 = cc in absurd (omega arith)
nothing_of z q k a (points t n x y) e = let w : ◌≡◌ {A = ℕ} 0 1 = cc in absurd (omega arith)
nothing_of z q k a (empty t n x y u) e = let w : ◌≡◌ {A = ℕ} 0 1 = cc in absurd (omega arith)

-- ---- names above one another

pub no_longer : (a b : List (List ℕ)) → within a b ≡ true → length a ≤ length b
no_longer a b h =
    let r = within_laws.front a b h in
    let n = ap length r.1 in
    let m = length-append a r.0 in
    omega arith

-- of two names above one, the shorter is above the other
above_other : (a b q : List (List ℕ)) → within a q ≡ true → within b q ≡ true → length a ≤ length b → within a b ≡ true
above_other a b q h k l =
    ⊎_elim (λ w. w) (λ w. let m = no_longer b a w in subst (λ x. within x b ≡ true) (one_above b a q k h (omega arith)) (within_itself b)) (within_laws.nested a b q h k)

-- ---- the laws

-- a delegation over two names that are both below another is no higher there than here
shortest : (z : Zone) (q r : List (List ℕ)) (s t : Set) → within s.name r ≡ true → Over z q s → ((u : Set) → Over z q u → length s.name ≤ length u.name) → Over z r t → length s.name ≤ length t.name
shortest z q r s t w o least v =
    ⊎_elim
    (λ (short : length t.name < length s.name).
    let up : within t.name s.name ≡ true = above_other t.name s.name r v.above w (omega arith) in
    least t (record { there = v.there; delegation = v.delegation; above = within_laws.transitive t.name s.name q up o.above; below_apex = v.below_apex }))
    (λ long. long)
    (cases_lt (length t.name) (length s.name))

referral_same : (z : Zone) → Distinct z → (q : List (List ℕ)) (k : ℕ) (s : Set) → says z q k ≡ Some (ByDelegation s) → (r : List (List ℕ)) (j : ℕ) → within s.name r ≡ true → says z r j ≡ Some (ByDelegation s)
referral_same z d q k s h r j w =
    let p = spoken z q k (ByDelegation s) h in
    let rule = ruled z q k (ByDelegation s) h in
    let o = over_of z q k s (ByDelegation s) rule refl in
    let least = least_of_lem z q k s (ByDelegation s) rule refl in
    let l = o.below_apex in
    let up : within z.apex s.name ≡ true = above_other z.apex s.name q p.0 o.above (omega arith) in
    by_rule z d r j (ByDelegation s) (within_laws.transitive z.apex s.name r up w)
    (refers s (record { there = o.there; delegation = o.delegation; above = w; below_apex = o.below_apex }) (λ t v. shortest z q r s t w o least v))

delegated : (z : Zone) (q : List (List ℕ)) (k : ℕ) (s : Set) → within z.apex q ≡ true → Over z q s → (t : Set) × (says z q k ≡ Some (ByDelegation t))
delegated z q k s h o = go (speaker z q k) refl (sound z q k)
  where
    go : (a : Speaker) → speaker z q k ≡ a → Rule z q k a → (t : Set) × (says z q k ≡ Some (ByDelegation t))
    go a e (refers t p l) = (t, says_within z q k h ∙ ap Some e)
    go a e (tells t n x) = absurd (n s o)
    go a e (points t n x y) = absurd (n s o)
    go a e (empty t n x y u) = absurd (n s o)
    go a e (absent n x y u) = absurd (n s o)

data_of : (z : Zone) (q : List (List ℕ)) (k : ℕ) (s : Set) → says z q k ≡ Some (BySet s) → Memᴰ s z.sets × (s.name ≡ q) × (s.kind ≡ k)
data_of z q k s h = let e = set_of_lem z q k s (BySet s) (ruled z q k (BySet s) h) refl in (e.there, e.name_is, e.kind_is)

alias_of : (z : Zone) (q : List (List ℕ)) (k : ℕ) (s : Set) → says z q k ≡ Some (ByAlias s) → AliasAt z q s × (s.kind ≡ k → ⊥)
alias_of z q k s h =
    let e = alias_from z q k s (ByAlias s) (ruled z q k (ByAlias s) h) refl in
    (e.0, λ f. e.1 s (record { there = e.0.there; name_is = e.0.name_is; kind_is = f }))

alias_asked : (z : Zone) → Distinct z → (q : List (List ℕ)) (s : Set) → within z.apex q ≡ true → No (Over z q) → AliasAt z q s → says z q s.kind ≡ Some (BySet s)
alias_asked z d q s h n a = by_rule z d q s.kind (BySet s) h (tells s n (record { there = a.there; name_is = a.name_is; kind_is = refl }))

no_name_below : (z : Zone) → Distinct z → (p q : List (List ℕ)) (j k : ℕ) → says z p j ≡ Some NoName → within p q ≡ true → says z q k ≡ Some NoName
no_name_below z d p q j k h w =
    let f = spoken z p j NoName h in
    let n = nothing_of z p j NoName (ruled z p j NoName h) refl in
    by_rule z d q k NoName (within_laws.transitive z.apex p q f.0 w)
    (absent
    (λ s o. ⊎_elim
    (λ v. n.0 s (record { there = o.there; delegation = o.delegation; above = v; below_apex = o.below_apex }))
    (λ v. n.1 s (record { there = o.there; below = v }))
    (within_laws.nested s.name p q o.above w))
    (λ s e. n.1 s (record { there = e.there; below = subst (λ x. within p x ≡ true) (sym e.name_is) w }))
    (λ s e. n.1 s (record { there = e.there; below = subst (λ x. within p x ≡ true) (sym e.name_is) w }))
    (λ s u. n.1 s (record { there = u.there; below = within_laws.transitive p q s.name w u.below })))

-- ---- without the hidden sets

kept : (test : Set → Bool) (ss : List Set) (s : Set) → Memᴰ s ss → test s ≡ true → Memᴰ s (keep test ss)
unfolding keep
kept test [] s m p = absurd (Memᴰ.not-nil m)
kept test (t ∷ ss) s m p = go (test t) refl (kept test ss s) (Memᴰ.cases_cons m)
  where
    go : (b : Bool) → test t ≡ b → (Memᴰ s ss → test s ≡ true → Memᴰ s (keep test ss)) → (s ≡ t) ⊎ Memᴰ s ss → Memᴰ s (cond (test t) (t ∷ keep test ss) (keep test ss))
    go true e ih (inl f) = subst (Memᴰ s) (sym (cond-true (test t) (t ∷ keep test ss) (keep test ss) e)) (Memᴰ.head f)
    go true e ih (inr n) = subst (Memᴰ s) (sym (cond-true (test t) (t ∷ keep test ss) (keep test ss) e)) (Memᴰ.tail (ih n p))
    go false e ih (inl f) = absurd (true≢false (sym p ∙ ap test f ∙ e))
    go false e ih (inr n) = subst (Memᴰ s) (sym (cond-false (test t) (t ∷ keep test ss) (keep test ss) e)) (ih n p)

was_there : (test : Set → Bool) (ss : List Set) (s : Set) → Memᴰ s (keep test ss) → Memᴰ s ss
unfolding keep
was_there test [] s m = m
was_there test (t ∷ ss) s m = go (test t) refl (was_there test ss s) m
  where
    go : (b : Bool) → test t ≡ b → (Memᴰ s (keep test ss) → Memᴰ s ss) → Memᴰ s (cond (test t) (t ∷ keep test ss) (keep test ss)) → Memᴰ s (t ∷ ss)
    go true e ih n = ⊎_elim (λ f. Memᴰ.head f) (λ l. Memᴰ.tail (ih l)) (Memᴰ.cases_cons (subst (Memᴰ s) (cond-true (test t) (t ∷ keep test ss) (keep test ss) e) n))
    go false e ih n = Memᴰ.tail (ih (subst (Memᴰ s) (cond-false (test t) (t ∷ keep test ss) (keep test ss) e) n))

module _ (z : Zone) (d : Distinct z) where
  -- a set over whose name no other delegation stands is told
  told : (s : Set) → Memᴰ s z.sets → ((t : Set) → Over z s.name t → ((u : Set) → Over z s.name u → length t.name ≤ length u.name) → t ≡ s) → Memᴰ s (unhidden z).sets
  told s m only = kept (λ t. not (is_hidden z t)) z.sets s m (not_from_false (is_hidden z s) (go (highest (is_over z.apex s.name) z.sets) (finds_highest (is_over z.apex s.name) z.sets)))
    where
      go : (o : Option Set) → Highest (is_over z.apex s.name) z.sets o → is_other s o ≡ false
      go o (none_high h) = refl
      go o (high t n p least) =
          let e : t ≡ s = only t (over_so z s.name t n p) (λ u v. least u v.there (so_over z s.name u v)) in
          not_from_true (same t.name s.name && eqb t.kind s.kind)
          (and_from (same t.name s.name) (eqb t.kind s.kind) (so_same t.name s.name (ap (λ (x : Set). x.name) e)) (eq-eqb t.kind s.kind (ap (λ (x : Set). x.kind) e)))

  -- the highest delegation over a name is told
  told_delegation : (q : List (List ℕ)) (s : Set) → Over z q s → ((t : Set) → Over z q t → length s.name ≤ length t.name) → Memᴰ s (unhidden z).sets
  told_delegation q s o least =
      told s o.there (λ t v lowest.
      let up = within_laws.transitive t.name s.name q v.above o.above in
      let a = least t (record { there = v.there; delegation = v.delegation; above = up; below_apex = v.below_apex }) in
      let b = lowest s (record { there = o.there; delegation = o.delegation; above = within_itself s.name; below_apex = o.below_apex }) in
      d t s v.there o.there (one_above t.name s.name q up o.above (omega arith)) (eqb-true t.kind 4 v.delegation ∙ sym (eqb-true s.kind 4 o.delegation)))

  -- a set that no delegation stands over is told
  told_set : (q : List (List ℕ)) (s : Set) → Memᴰ s z.sets → s.name ≡ q → No (Over z q) → Memᴰ s (unhidden z).sets
  told_set q s m e n = told s m (λ t v lowest. absurd (n t (subst (λ x. Over z x t) e v)))

  back : (s : Set) → Memᴰ s (unhidden z).sets → Memᴰ s z.sets
  back s m = was_there (λ t. not (is_hidden z t)) z.sets s m

  over_back : (q : List (List ℕ)) (s : Set) → Over (unhidden z) q s → Over z q s
  over_back q s o = record { there = back s o.there; delegation = o.delegation; above = o.above; below_apex = o.below_apex }

  exactly_back : (q : List (List ℕ)) (k : ℕ) (s : Set) → Exactly (unhidden z) q k s → Exactly z q k s
  exactly_back q k s e = record { there = back s e.there; name_is = e.name_is; kind_is = e.kind_is }

  alias_back : (q : List (List ℕ)) (s : Set) → AliasAt (unhidden z) q s → AliasAt z q s
  alias_back q s a = record { there = back s a.there; name_is = a.name_is; alias = a.alias }

  -- what stands below a name: itself, or the delegation that hides it
  told_under : (q : List (List ℕ)) (s : Set) → Under z q s → No (Over z q) → (t : Set) × Under (unhidden z) q t
  told_under q s u n = go (highest (is_over z.apex s.name) z.sets) (finds_highest (is_over z.apex s.name) z.sets)
    where
      go : (o : Option Set) → Highest (is_over z.apex s.name) z.sets o → (t : Set) × Under (unhidden z) q t
      go o (none_high h) = (s, record { there = told s u.there (λ t v l. absurd (h t v.there (so_over z s.name t v))); below = u.below })
      go o (high t m p least) =
          let v = over_so z s.name t m p in (
            t,
            record {
              there = told_delegation s.name t v (λ x y. least x y.there (so_over z s.name x y));
              below = ⊎_elim (λ w. absurd (n t (record { there = v.there; delegation = v.delegation; above = w; below_apex = v.below_apex }))) (λ w. w) (within_laws.nested t.name q s.name v.above u.below);
            },
          )

  rule_unhidden : (q : List (List ℕ)) (k : ℕ) (a : Speaker) → Rule z q k a → Rule (unhidden z) q k a
  rule_unhidden q k a (refers s o l) =
      refers s (record { there = told_delegation q s o l; delegation = o.delegation; above = o.above; below_apex = o.below_apex }) (λ t v. l t (over_back q t v))
  rule_unhidden q k a (tells s n e) =
      tells s (λ t v. n t (over_back q t v)) (record { there = told_set q s e.there e.name_is n; name_is = e.name_is; kind_is = e.kind_is })
  rule_unhidden q k a (points s n e x) =
      points s (λ t v. n t (over_back q t v)) (λ t f. e t (exactly_back q k t f)) (record { there = told_set q s x.there x.name_is n; name_is = x.name_is; alias = x.alias })
  rule_unhidden q k a (empty s n e x u) =
      let t = told_under q s u n in
      empty t.0 (λ y v. n y (over_back q y v)) (λ y f. e y (exactly_back q k y f)) (λ y f. x y (alias_back q y f)) t.1
  rule_unhidden q k a (absent n e x u) =
      absent (λ y v. n y (over_back q y v)) (λ y f. e y (exactly_back q k y f)) (λ y f. x y (alias_back q y f)) (λ y v. u y (record { there = back y v.there; below = v.below }))

  unhidden_same : (q : List (List ℕ)) (k : ℕ) → says (unhidden z) q k ≡ says z q k
  unfolding says
  unhidden_same q k =
      let e : speaker (unhidden z) q k ≡ speaker z q k = unique (unhidden z) (λ s t m n. d s t (back s m) (back t n)) q k (speaker (unhidden z) q k) (speaker z q k) (sound (unhidden z) q k) (rule_unhidden q k (speaker z q k) (sound z q k)) in
      ap (λ a. cond (within z.apex q) (Some a) None) e

pub says_laws : SaysLaws
says_laws = record {
  answers = λ z q k h. (speaker z q k, says_within z q k h);
  within_apex = λ z q k a h. (spoken z q k a h).0;
  referral = λ z q k s h. over_of z q k s (ByDelegation s) (ruled z q k (ByDelegation s) h) refl;
  referral_same = referral_same;
  delegated = delegated;
  data_of = data_of;
  alias_of = alias_of;
  alias_asked = alias_asked;
  no_name_below = no_name_below;
  unhidden_same = unhidden_same;
}
