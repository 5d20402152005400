-- The function and the rules say the same, and the rules have one answer.
use Rattle.std.proofs.Common.{◌≡◌, ℕ, nat_eq, ◌<◌, ◌≤◌, Bool, true, cond, ◌&&◌, eqb, ltb, List, length, Some, None, Decides, Option, sym, refl, ap, ◌∙◌, subst, ⊎_elim, arith}
use mathlib.Core.List.{Memᴰ}
use Rattle.std.specs.Cmp.Lexicographic.{pointwise}
use Rattle.std.proofs.lemmas.Bool.Decides.{same_from_decides}
use Rattle.std.proofs.lemmas.Bool.{and_parts, and_from, eqb-true, eq-eqb, ltb-true, lt-ltb}
use Rattle.names.specs.Order.{within}
use Rattle.names.proofs.Within.{within_laws, within_level, within_itself, names_told}
use Rattle.meaning.specs.Model.{delegates, aliases, Set, Zone}
use Rattle.meaning.specs.Says.{Speaker, ByDelegation, BySet, ByAlias, NoData, NoName, Over, Exactly, AliasAt, No, Rule, refers, tells, points, empty, absent, same, is_over, is_exactly, is_alias_at, find, highest, any_under, or_else, speaker, says, Distinct, SameSets, SaysMeans}
use Rattle.meaning.proofs.Finding.{Found, some, none, finds, Highest, high, none_high, finds_highest, Below, one, no_one, looks_below}

-- ---- tests and what they say

pub same_so : (a b : List (List ℕ)) → same a b ≡ true → a ≡ b
same_so a b h =
    let p = and_parts (eqb (length a) (length b)) (within a b) h in
    within_level a b p.1 (eqb-true (length a) (length b) p.0)

pub so_same : (a b : List (List ℕ)) → a ≡ b → same a b ≡ true
so_same a b e = subst (λ x. same a x ≡ true) e (and_from (eqb (length a) (length a)) (within a a) (eq-eqb (length a) (length a) refl) (within_itself a))

-- another test of whether two names are the same answers alike
pub same_test : (a n : List (List ℕ)) (b : Bool) → Decides b (a ≡ n) → b ≡ same a n
same_test a n b h = same_from_decides b (same a n) h (same_so a n, so_same a n)

-- as `==` of names does
pub told_same : (a n : List (List ℕ)) → pointwise (pointwise nat_eq) a n ≡ same a n
told_same a n = same_test a n (pointwise (pointwise nat_eq) a n) (names_told a n)

module _ (z : Zone) (q : List (List ℕ)) where
  pub over_so : (s : Set) → Memᴰ s z.sets → is_over z.apex q s ≡ true → Over z q s
  over_so s m h =
      let p = and_parts (delegates s.kind && within s.name q) (ltb (length z.apex) (length s.name)) h in
      let r = and_parts (delegates s.kind) (within s.name q) p.0 in
      record { there = m; delegation = r.0; above = r.1; below_apex = ltb-true (length z.apex) (length s.name) p.1 }

  pub so_over : (s : Set) → Over z q s → is_over z.apex q s ≡ true
  so_over s o =
      and_from (delegates s.kind && within s.name q) (ltb (length z.apex) (length s.name))
      (and_from (delegates s.kind) (within s.name q) o.delegation o.above) (lt-ltb (length z.apex) (length s.name) o.below_apex)

  pub exactly_so : (k : ℕ) (s : Set) → Memᴰ s z.sets → is_exactly q k s ≡ true → Exactly z q k s
  exactly_so k s m h =
      let p = and_parts (same s.name q) (eqb s.kind k) h in
      record { there = m; name_is = same_so s.name q p.0; kind_is = eqb-true s.kind k p.1 }

  pub so_exactly : (k : ℕ) (s : Set) → Exactly z q k s → is_exactly q k s ≡ true
  so_exactly k s e = and_from (same s.name q) (eqb s.kind k) (so_same s.name q e.name_is) (eq-eqb s.kind k e.kind_is)

  pub alias_so : (s : Set) → Memᴰ s z.sets → is_alias_at q s ≡ true → AliasAt z q s
  alias_so s m h =
      let p = and_parts (same s.name q) (aliases s.kind) h in
      record { there = m; name_is = same_so s.name q p.0; alias = p.1 }

  pub so_alias : (s : Set) → AliasAt z q s → is_alias_at q s ≡ true
  so_alias s a = and_from (same s.name q) (aliases s.kind) (so_same s.name q a.name_is) a.alias

-- ---- the function follows the rules

module _ (z : Zone) (q : List (List ℕ)) (k : ℕ) where
  by_below : (b : Bool) → Below q z.sets b → No (Over z q) → No (Exactly z q k) → No (AliasAt z q) → Rule z q k (cond b NoData NoName)
  by_below b (one s m p) o e a = empty s o e a (record { there = m; below = p })
  by_below b (no_one h) o e a = absent o e a (λ s u. h s u.there u.below)

  by_alias : (x : Option Set) → Found (is_alias_at q) z.sets x → No (Over z q) → No (Exactly z q k) → Rule z q k (or_else ByAlias x (cond (any_under q z.sets) NoData NoName))
  by_alias x (some s m p) o e = points s o e (alias_so z q s m p)
  by_alias x (none h) o e = by_below (any_under q z.sets) (looks_below q z.sets) o e (λ s a. h s a.there (so_alias z q s a))

  by_set : (x : Option Set) → Found (is_exactly q k) z.sets x → No (Over z q) → Rule z q k (or_else BySet x (or_else ByAlias (find (is_alias_at q) z.sets) (cond (any_under q z.sets) NoData NoName)))
  by_set x (some s m p) o = tells s o (exactly_so z q k s m p)
  by_set x (none h) o = by_alias (find (is_alias_at q) z.sets) (finds (is_alias_at q) z.sets) o (λ s e. h s e.there (so_exactly z q k s e))

  by_delegation : (x : Option Set) → Highest (is_over z.apex q) z.sets x → Rule z q k (or_else ByDelegation x (or_else BySet (find (is_exactly q k) z.sets) (or_else ByAlias (find (is_alias_at q) z.sets) (cond (any_under q z.sets) NoData NoName))))
  by_delegation x (high s m p least) = refers s (over_so z q s m p) (λ t o. least t o.there (so_over z q t o))
  by_delegation x (none_high h) = by_set (find (is_exactly q k) z.sets) (finds (is_exactly q k) z.sets) (λ s o. h s o.there (so_over z q s o))

  pub sound : Rule z q k (speaker z q k)
  unfolding speaker
  sound = by_delegation (highest (is_over z.apex q) z.sets) (finds_highest (is_over z.apex q) z.sets)

-- ---- one answer

-- two names above one, of one length, are one
pub one_above : (a b q : List (List ℕ)) → within a q ≡ true → within b q ≡ true → length a ≡ length b → a ≡ b
one_above a b q h k e =
    ⊎_elim (λ w. within_level a b w e) (λ w. sym (within_level b a w (sym e))) (within_laws.nested a b q h k)

module _ (z : Zone) (d : Distinct z) (q : List (List ℕ)) (k : ℕ) where
  one_delegation : (s t : Set) → Over z q s → Over z q t → length s.name ≤ length t.name → length t.name ≤ length s.name → s ≡ t
  one_delegation s t o p l m =
      d s t o.there p.there (one_above s.name t.name q o.above p.above (omega arith)) (eqb-true s.kind 4 o.delegation ∙ sym (eqb-true t.kind 4 p.delegation))

  one_set : (s t : Set) → Exactly z q k s → Exactly z q k t → s ≡ t
  one_set s t e f = d s t e.there f.there (e.name_is ∙ sym f.name_is) (e.kind_is ∙ sym f.kind_is)

  one_alias : (s t : Set) → AliasAt z q s → AliasAt z q t → s ≡ t
  one_alias s t e f = d s t e.there f.there (e.name_is ∙ sym f.name_is) (eqb-true s.kind 5 e.alias ∙ sym (eqb-true t.kind 5 f.alias))

  pub unique : (a b : Speaker) → Rule z q k a → Rule z q k b → a ≡ b
  unique a b (refers s o l) (refers t p m) = ap ByDelegation (one_delegation s t o p (l t p) (m s o))
  unique a b (refers s o l) (tells t n e) = absurd (n s o)
  unique a b (refers s o l) (points t n e x) = absurd (n s o)
  unique a b (refers s o l) (empty t n e x u) = absurd (n s o)
  unique a b (refers s o l) (absent n e x u) = absurd (n s o)
  unique a b (tells s n e) (refers t o l) = absurd (n t o)
  unique a b (tells s n e) (tells t o f) = ap BySet (one_set s t e f)
  unique a b (tells s n e) (points t o f x) = absurd (f s e)
  unique a b (tells s n e) (empty t o f x u) = absurd (f s e)
  unique a b (tells s n e) (absent o f x u) = absurd (f s e)
  unique a b (points s n e x) (refers t o l) = absurd (n t o)
  unique a b (points s n e x) (tells t o f) = absurd (e t f)
  unique a b (points s n e x) (points t o f y) = ap ByAlias (one_alias s t x y)
  unique a b (points s n e x) (empty t o f y u) = absurd (y s x)
  unique a b (points s n e x) (absent o f y u) = absurd (y s x)
  unique a b (empty s n e x u) (refers t o l) = absurd (n t o)
  unique a b (empty s n e x u) (tells t o f) = absurd (e t f)
  unique a b (empty s n e x u) (points t o f y) = absurd (x t y)
  unique a b (empty s n e x u) (empty t o f y v) = refl
  unique a b (empty s n e x u) (absent o f y v) = absurd (v s u)
  unique a b (absent n e x u) (refers t o l) = absurd (n t o)
  unique a b (absent n e x u) (tells t o f) = absurd (e t f)
  unique a b (absent n e x u) (points t o f y) = absurd (x t y)
  unique a b (absent n e x u) (empty t o f y v) = absurd (u t v)
  unique a b (absent n e x u) (absent o f y v) = refl

-- ---- in whatever order

module _ (y z : Zone) (apex : y.apex ≡ z.apex) (sets : SameSets y z) (q : List (List ℕ)) (k : ℕ) where
  over_moves : (s : Set) → Over y q s → Over z q s
  over_moves s o = record { there = (sets s).0 o.there; delegation = o.delegation; above = o.above; below_apex = subst (λ a. length a < length s.name) apex o.below_apex }

  over_back : (s : Set) → Over z q s → Over y q s
  over_back s o = record { there = (sets s).1 o.there; delegation = o.delegation; above = o.above; below_apex = subst (λ a. length a < length s.name) (sym apex) o.below_apex }

  exactly_moves : (s : Set) → Exactly y q k s → Exactly z q k s
  exactly_moves s e = record { there = (sets s).0 e.there; name_is = e.name_is; kind_is = e.kind_is }

  exactly_back : (s : Set) → Exactly z q k s → Exactly y q k s
  exactly_back s e = record { there = (sets s).1 e.there; name_is = e.name_is; kind_is = e.kind_is }

  alias_moves : (s : Set) → AliasAt y q s → AliasAt z q s
  alias_moves s a = record { there = (sets s).0 a.there; name_is = a.name_is; alias = a.alias }

  alias_back : (s : Set) → AliasAt z q s → AliasAt y q s
  alias_back s a = record { there = (sets s).1 a.there; name_is = a.name_is; alias = a.alias }

  rule_moves : (a : Speaker) → Rule y q k a → Rule z q k a
  rule_moves a (refers s o l) = refers s (over_moves s o) (λ t p. l t (over_back t p))
  rule_moves a (tells s n e) = tells s (λ t o. n t (over_back t o)) (exactly_moves s e)
  rule_moves a (points s n e x) = points s (λ t o. n t (over_back t o)) (λ t f. e t (exactly_back t f)) (alias_moves s x)
  rule_moves a (empty s n e x u) = empty s (λ t o. n t (over_back t o)) (λ t f. e t (exactly_back t f)) (λ t w. x t (alias_back t w)) (record { there = (sets s).0 u.there; below = u.below })
  rule_moves a (absent n e x u) = absent (λ t o. n t (over_back t o)) (λ t f. e t (exactly_back t f)) (λ t w. x t (alias_back t w)) (λ t v. u t (record { there = (sets t).1 v.there; below = v.below }))

unordered : (y z : Zone) → Distinct z → y.apex ≡ z.apex → SameSets y z → (q : List (List ℕ)) (k : ℕ) → says y q k ≡ says z q k
unfolding says
unordered y z d apex sets q k =
    let e : speaker y q k ≡ speaker z q k = unique z d q k (speaker y q k) (speaker z q k) (rule_moves y z apex sets q k (speaker y q k) (sound y q k)) (sound z q k) in
    λ i. cond (within (apex i) q) (Some (e i)) None

pub says_means : SaysMeans
says_means = record { sound = sound; unique = unique; unordered = unordered }
