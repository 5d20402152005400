-- What searches of a list of sets find.
use Rattle.std.proofs.Common.{◌≡◌, ℕ, ◌≤◌, Bool, true, false, cond, ◌||◌, leb, List, [], ◌∷◌, length, Some, None, Option, sym, refl, ap, ◌∙◌, subst, ⊎_elim, true≢false, arith}
use mathlib.Core.List.Memᴰ
use mathlib.Core.List.{Memᴰ}
use Rattle.std.proofs.lemmas.Bool.{cond-true, cond-false, leb-true, leb-false}
use Rattle.names.specs.Order.{within}
use Rattle.meaning.specs.Model.{Set}
use Rattle.meaning.specs.Says.{find, shorter, highest, any_under}

-- nothing in a list passes
abbrev pub Nothing : (Set → Bool) → List Set → Type 0
Nothing test ss = (s : Set) → Memᴰ s ss → test s ≡ true → ⊥

pub nothing_more : (test : Set → Bool) (s : Set) (ss : List Set) → test s ≡ false → Nothing test ss → Nothing test (s ∷ ss)
nothing_more test s ss f h t m p =
    ⊎_elim (λ e. true≢false (sym p ∙ ap test e ∙ f)) (λ n. h t n p) (Memᴰ.cases_cons m)

-- ---- the first

pub data Found (test : Set → Bool) (ss : List Set) : Option Set → Type 0 where
  some : (s : Set) → Memᴰ s ss → test s ≡ true → Found test ss (Some s)
  none : Nothing test ss → Found test ss None

found_more : (test : Set → Bool) (s : Set) (ss : List Set) (o : Option Set) → test s ≡ false → Found test ss o → Found test (s ∷ ss) o
found_more test s ss o f (some t m p) = some t (Memᴰ.tail m) p
found_more test s ss o f (none h) = none (nothing_more test s ss f h)

pub finds : (test : Set → Bool) (ss : List Set) → Found test ss (find test ss)
unfolding find
finds test [] = none (λ s m p. Memᴰ.not-nil m)
finds test (s ∷ ss) = go (test s) refl (finds test ss)
  where
    go : (b : Bool) → test s ≡ b → Found test ss (find test ss) → Found test (s ∷ ss) (cond (test s) (Some s) (find test ss))
    go true e ih = subst (Found test (s ∷ ss)) (sym (cond-true (test s) (Some s) (find test ss) e)) (some s (Memᴰ.head refl) e)
    go false e ih = subst (Found test (s ∷ ss)) (sym (cond-false (test s) (Some s) (find test ss) e)) (found_more test s ss (find test ss) e ih)

-- ---- one with the fewest labels

-- no set that passes has fewer labels
abbrev pub Fewest : (Set → Bool) → List Set → Set → Type 0
Fewest test ss s = (t : Set) → Memᴰ t ss → test t ≡ true → length s.name ≤ length t.name

pub data Highest (test : Set → Bool) (ss : List Set) : Option Set → Type 0 where
  high : (s : Set) → Memᴰ s ss → test s ≡ true → Fewest test ss s → Highest test ss (Some s)
  none_high : Nothing test ss → Highest test ss None

high_more : (test : Set → Bool) (s : Set) (ss : List Set) (o : Option Set) → test s ≡ false → Highest test ss o → Highest test (s ∷ ss) o
high_more test s ss o f (high t m p least) =
    high t (Memᴰ.tail m) p (λ u n q. ⊎_elim (λ e. absurd (true≢false (sym q ∙ ap test e ∙ f))) (λ k. least u k q) (Memᴰ.cases_cons n))
high_more test s ss o f (none_high h) = none_high (nothing_more test s ss f h)

at_most : (s t : Set) → s ≡ t → length t.name ≤ length s.name
at_most s t e = let n = ap (λ (u : Set). length u.name) e in omega arith

high_one : (test : Set → Bool) (s : Set) (ss : List Set) (o : Option Set) → test s ≡ true → Highest test ss o → Highest test (s ∷ ss) (Some (shorter s o))
high_one test s ss o f (none_high h) =
    high s (Memᴰ.head refl) f (λ u n q. ⊎_elim (λ e. at_most u s e) (λ k. absurd (h u k q)) (Memᴰ.cases_cons n))
high_one test s ss o f (high t m p least) = go (leb (length s.name) (length t.name)) refl
  where
    go : (b : Bool) → leb (length s.name) (length t.name) ≡ b → Highest test (s ∷ ss) (Some (cond (leb (length s.name) (length t.name)) s t))
    go true e =
        subst (λ x. Highest test (s ∷ ss) (Some x)) (sym (cond-true (leb (length s.name) (length t.name)) s t e))
        (high s (Memᴰ.head refl) f (λ u n q. ⊎_elim (λ d. at_most u s d) (λ k. let a = leb-true (length s.name) (length t.name) e in let b = least u k q in omega arith) (Memᴰ.cases_cons n)))
    go false e =
        subst (λ x. Highest test (s ∷ ss) (Some x)) (sym (cond-false (leb (length s.name) (length t.name)) s t e))
        (high t (Memᴰ.tail m) p (λ u n q. ⊎_elim (λ d. let a = leb-false (length s.name) (length t.name) e in let b = at_most u s d in omega arith) (λ k. least u k q) (Memᴰ.cases_cons n)))

pub finds_highest : (test : Set → Bool) (ss : List Set) → Highest test ss (highest test ss)
unfolding highest
finds_highest test [] = none_high (λ s m p. Memᴰ.not-nil m)
finds_highest test (s ∷ ss) = go (test s) refl (finds_highest test ss)
  where
    go : (b : Bool) → test s ≡ b → Highest test ss (highest test ss) → Highest test (s ∷ ss) (cond (test s) (Some (shorter s (highest test ss))) (highest test ss))
    go true e ih = subst (Highest test (s ∷ ss)) (sym (cond-true (test s) (Some (shorter s (highest test ss))) (highest test ss) e)) (high_one test s ss (highest test ss) e ih)
    go false e ih = subst (Highest test (s ∷ ss)) (sym (cond-false (test s) (Some (shorter s (highest test ss))) (highest test ss) e)) (high_more test s ss (highest test ss) e ih)

-- ---- anything at or below a name

pub data Below (q : List (List ℕ)) (ss : List Set) : Bool → Type 0 where
  one : (s : Set) → Memᴰ s ss → within q s.name ≡ true → Below q ss true
  no_one : ((s : Set) → Memᴰ s ss → within q s.name ≡ true → ⊥) → Below q ss false

pub looks_below : (q : List (List ℕ)) (ss : List Set) → Below q ss (any_under q ss)
unfolding any_under
looks_below q [] = no_one (λ s m p. Memᴰ.not-nil m)
looks_below q (s ∷ ss) = go (within q s.name) refl (any_under q ss) (looks_below q ss)
  where
    more : (b : Bool) → within q s.name ≡ false → Below q ss b → Below q (s ∷ ss) b
    more b f (one t m p) = one t (Memᴰ.tail m) p
    more b f (no_one h) = no_one (nothing_more (λ t. within q t.name) s ss f h)

    go : (b : Bool) → within q s.name ≡ b → (c : Bool) → Below q ss c → Below q (s ∷ ss) (within q s.name || c)
    go true e c ih = subst (λ x. Below q (s ∷ ss) (x || c)) (sym e) (one s (Memᴰ.head refl) e)
    go false e c ih = subst (λ x. Below q (s ∷ ss) (x || c)) (sym e) (more c e ih)
