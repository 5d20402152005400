-- What one more try makes of the tries of a question: no word forgotten, no count lower, at most 24 words.
use Rattle.std.proofs.Common.{◌≡◌, ℕ, ◌+◌, ◌*◌, ◌<◌, ◌≤◌, min, Bool, true, false, cond, not, eqb, ltb, ◌⊎◌, List, [], ◌∷◌, length, Some, None, Option, sym, refl, ap, ◌∙◌, subst, inl, inr, ⊎_elim, true≢false, suc-mul, arith}
use mathlib.Core.List.Memᴰ
use mathlib.Core.List.{Memᴰ}
use Rattle.std.proofs.lemmas.Bool.{cond-true, cond-false, cond_both, and_parts, and_from, not-true, not_from_false, leb-false, lt-ltb, eqb-true}
use Rattle.meaning.specs.Says.{same}
use Rattle.meaning.proofs.Rules.{same_so, so_same}
use Rattle.protocol.specs.Lists.{first, any}
use Rattle.protocol.specs.Words.{Name}
use Rattle.protocol.proofs.Lists.{some_none, first_here, first_there, any_none, none_any}
use Rattle.machine.specs.Machine.{Tried, is_word, tried_of, count_of, too_many, count_up, try_more}
use Rattle.machine.specs.Bounds.{one_a_word}
use Rattle.machine.proofs.Asking.{tried_in, tries_least}

pub count_more : (n : ℕ) → n ≤ count_up n
count_more n = cond_both (ltb n 64) (n + 1) n (λ m. n ≤ m) (λ e. omega arith) (λ e. omega arith)

pub count_once : (n : ℕ) → n < 64 → count_up n ≡ n + 1
count_once n l = cond-true (ltb n 64) (n + 1) n (lt-ltb n 64 l)

-- ---- words

pub word_so : (a p : Name) (t : Tried) → is_word a p t ≡ true → (t.apex ≡ a) × (t.name ≡ p)
word_so a p t e = let h = and_parts (same t.apex a) (same t.name p) e in (same_so t.apex a h.0, same_so t.name p h.1)

pub so_word : (a p : Name) (t : Tried) → t.apex ≡ a → t.name ≡ p → is_word a p t ≡ true
so_word a p t e f = and_from (same t.apex a) (same t.name p) (so_same t.apex a e) (so_same t.name p f)

module _ (a p : Name) (at n : ℕ) where
  abbrev pub fresh : Tried
  fresh = record { apex = a; name = p; count = 1; place = at; id = n }

  abbrev pub bumped : Tried → Tried
  bumped t = record { apex = t.apex; name = t.name; count = count_up t.count; place = at; id = n }

  -- the three ways in which the first try stands to the word
  pub more_same : (t : Tried) (ts : List Tried) → is_word a p t ≡ true → eqb t.id n ≡ true → try_more a p at n (t ∷ ts) ≡ t ∷ ts
  unfolding try_more
  more_same t ts e f = cond-true (is_word a p t) (cond (eqb t.id n) (t ∷ ts) (bumped t ∷ ts)) (t ∷ try_more a p at n ts) e ∙ cond-true (eqb t.id n) (t ∷ ts) (bumped t ∷ ts) f

  pub more_here : (t : Tried) (ts : List Tried) → is_word a p t ≡ true → eqb t.id n ≡ false → try_more a p at n (t ∷ ts) ≡ bumped t ∷ ts
  unfolding try_more
  more_here t ts e f = cond-true (is_word a p t) (cond (eqb t.id n) (t ∷ ts) (bumped t ∷ ts)) (t ∷ try_more a p at n ts) e ∙ cond-false (eqb t.id n) (t ∷ ts) (bumped t ∷ ts) f

  pub more_there : (t : Tried) (ts : List Tried) → is_word a p t ≡ false → try_more a p at n (t ∷ ts) ≡ t ∷ try_more a p at n ts
  unfolding try_more
  more_there t ts e = cond-false (is_word a p t) (cond (eqb t.id n) (t ∷ ts) (bumped t ∷ ts)) (t ∷ try_more a p at n ts) e

  pub more_first : try_more a p at n [] ≡ fresh ∷ []
  unfolding try_more
  more_first = refl

  -- whatever holds in each of these ways
  pub more_cases : (P : List Tried → List Tried → Type 0) → P [] (fresh ∷ []) → ((t : Tried) (ts : List Tried) → is_word a p t ≡ true → eqb t.id n ≡ true → P (t ∷ ts) (t ∷ ts)) → ((t : Tried) (ts : List Tried) → is_word a p t ≡ true → eqb t.id n ≡ false → P (t ∷ ts) (bumped t ∷ ts)) →
      ((t : Tried) (ts : List Tried) → is_word a p t ≡ false → P ts (try_more a p at n ts) → P (t ∷ ts) (t ∷ try_more a p at n ts)) → (ts : List Tried) → P ts (try_more a p at n ts)
  more_cases P none same_one here there [] = subst (P []) (sym more_first) none
  more_cases P none same_one here there (t ∷ ts) = go (is_word a p t) refl (eqb t.id n) refl (more_cases P none same_one here there ts)
    where
      go : (b : Bool) → is_word a p t ≡ b → (c : Bool) → eqb t.id n ≡ c → P ts (try_more a p at n ts) → P (t ∷ ts) (try_more a p at n (t ∷ ts))
      go true e true f ih = subst (P (t ∷ ts)) (sym (more_same t ts e f)) (same_one t ts e f)
      go true e false f ih = subst (P (t ∷ ts)) (sym (more_here t ts e f)) (here t ts e f)
      go false e c f ih = subst (P (t ∷ ts)) (sym (more_there t ts e)) (there t ts e ih)

  -- ---- nothing is lost

  module _ (c q : Name) where
    abbrev Kept-so : List Tried → List Tried → Type 0
    Kept-so ts us = (tried_of c q us ≡ None → tried_of c q ts ≡ None) × (count_of (tried_of c q ts) ≤ count_of (tried_of c q us))

    same_head : (t u : Tried) (ts us : List Tried) → is_word c q t ≡ is_word c q u → t.count ≤ u.count → Kept-so ts us → Kept-so (t ∷ ts) (u ∷ us)
    same_head t u ts us e l k = go (is_word c q u) refl
      where
        go : (b : Bool) → is_word c q u ≡ b → Kept-so (t ∷ ts) (u ∷ us)
        go true f =
            let x = first_here (is_word c q) t ts (e ∙ f) in
            let y = first_here (is_word c q) u us f in
            (λ h. absurd (some_none u (sym h ∙ y)), subst (λ o. count_of o ≤ count_of (tried_of c q (u ∷ us))) (sym x) (subst (λ o. t.count ≤ count_of o) (sym y) l))
        go false f =
            let x = first_there (is_word c q) t ts (e ∙ f) in
            let y = first_there (is_word c q) u us f in
            (λ h. x ∙ k.0 (sym y ∙ h), subst (λ o. count_of o ≤ count_of (tried_of c q (u ∷ us))) (sym x) (subst (λ o. count_of (tried_of c q ts) ≤ count_of o) (sym y) k.1))

    self : (ts : List Tried) → Kept-so ts ts
    self ts = (λ h. h, omega arith)

    pub more_keeps : (ts : List Tried) → (tried_of c q (try_more a p at n ts) ≡ None → tried_of c q ts ≡ None) × (count_of (tried_of c q ts) ≤ count_of (tried_of c q (try_more a p at n ts)))
    unfolding first
    more_keeps ts =
        more_cases Kept-so (λ h. refl, omega arith) (λ t us e f. self (t ∷ us)) (λ t us e f. same_head t (bumped t) us us refl (count_more t.count) (self us))
        (λ t us e ih. same_head t t us (try_more a p at n us) refl (omega arith) ih) ts

  -- ---- the word itself counts one more, unless this query was counted

  abbrev One-more : List Tried → List Tried → Type 0
  One-more ts us = ((t : Tried) → tried_of a p ts ≡ Some t → t.id ≡ n → ⊥) → count_of (tried_of a p ts) < 64 → count_of (tried_of a p us) ≡ count_of (tried_of a p ts) + 1

  pub more_counts : (ts : List Tried) → One-more ts (try_more a p at n ts)
  unfolding first
  more_counts ts =
      more_cases One-more
      (λ new l. ap count_of (first_here (is_word a p) fresh [] (so_word a p fresh refl refl)))
      (λ t us e f new l. absurd (new t (first_here (is_word a p) t us e) (eqb-true t.id n f)))
      (λ t us e f new l.
      let x = first_here (is_word a p) t us e in
      let k = ap count_of x in
      let y = ap count_of (first_here (is_word a p) (bumped t) us e) in
      let z = count_once t.count (omega arith) in
      omega arith)
      (λ t us e ih new l.
      let x = first_there (is_word a p) t us e in
      let k = ap count_of x in
      let y = ap count_of (first_there (is_word a p) t (try_more a p at n us) e) in
      let z = ih (λ v g. new v (x ∙ g)) (omega arith) in
      omega arith)
      ts

  -- ---- how many words, and one try a word

  found_length : (ts : List Tried) (t : Tried) → tried_of a p ts ≡ Some t → length (try_more a p at n ts) ≡ length ts
  unfolding first
  found_length ts =
      more_cases (λ us vs. (t : Tried) → tried_of a p us ≡ Some t → length vs ≡ length us)
      (λ t h. absurd (some_none t h)) (λ t us e f v h. refl) (λ t us e f v h. refl) (λ t us e ih v h. let k = ih v (sym (first_there (is_word a p) t us e) ∙ h) in omega arith) ts

  pub more_length : (ts : List Tried) → too_many (tried_of a p ts) ts ≡ false → length ts ≤ 24 → length (try_more a p at n ts) ≤ 24
  more_length ts few l = go (tried_of a p ts) refl
    where
      go : (o : Option Tried) → tried_of a p ts ≡ o → length (try_more a p at n ts) ≤ 24
      go (Some t) e = let k = found_length ts t e in omega arith
      go None e = let k = leb-false 24 (length ts) (sym (ap (λ o. too_many o ts) e) ∙ few) in let m = tries_least a p at n ts in omega arith

  -- a word of none of them is of none after, unless it is this word
  more_word : (c q : Name) (ts : List Tried) → any (is_word c q) ts ≡ false → ((c ≡ a) → (q ≡ p) → ⊥) → any (is_word c q) (try_more a p at n ts) ≡ false
  more_word c q ts h k = none_any (is_word c q) (try_more a p at n ts) (λ t m. by t (tried_in a p at n ts t m) (is_word c q t) refl)
    where
      by : (t : Tried) → ((u : Tried) × Memᴰ u ts × (u.apex ≡ t.apex) × (u.name ≡ t.name)) ⊎ ((t.apex ≡ a) × (t.name ≡ p)) → (b : Bool) → is_word c q t ≡ b → is_word c q t ≡ false
      by t x false e = e
      by t (inl x) true e = let w = word_so c q t e in absurd (any_none (is_word c q) ts h x.0 x.1 (so_word c q x.0 (x.2 ∙ w.0) (x.3 ∙ w.1)))
      by t (inr x) true e = let w = word_so c q t e in absurd (k (sym w.0 ∙ x.0) (sym w.1 ∙ x.1))

  pub more_one : (ts : List Tried) → one_a_word ts ≡ true → one_a_word (try_more a p at n ts) ≡ true
  unfolding one_a_word any
  more_one ts =
      more_cases (λ us vs. one_a_word us ≡ true → one_a_word vs ≡ true)
      (λ h. refl) (λ t us e f h. h) (λ t us e f h. h)
      (λ t us e ih h.
      let g = and_parts (not (any (is_word t.apex t.name) us)) (one_a_word us) h in
      and_from (not (any (is_word t.apex t.name) (try_more a p at n us))) (one_a_word (try_more a p at n us))
      (not_from_false (any (is_word t.apex t.name) (try_more a p at n us)) (more_word t.apex t.name us (not-true (any (is_word t.apex t.name) us) g.0) (λ i j. true≢false (sym (so_word a p t i j) ∙ e))))
      (ih g.1))
      ts

  -- ---- ids

  -- the word's try is by this query
  pub more_found : (ts : List Tried) → (t : Tried) × (tried_of a p (try_more a p at n ts) ≡ Some t) × (t.id ≡ n)
  more_found =
      more_cases (λ us vs. (t : Tried) × (tried_of a p vs ≡ Some t) × (t.id ≡ n))
      (fresh, first_here (is_word a p) fresh [] (so_word a p fresh refl refl), refl)
      (λ t us e f. (t, first_here (is_word a p) t us e, eqb-true t.id n f))
      (λ t us e f. (bumped t, first_here (is_word a p) (bumped t) us e, refl))
      (λ t us e ih. (ih.0, first_there (is_word a p) t (try_more a p at n us) e ∙ ih.1, ih.2))

  pub more_ids : (ts : List Tried) (t : Tried) → Memᴰ t (try_more a p at n ts) → Memᴰ t ts ⊎ (t.id ≡ n)
  more_ids ts =
      more_cases (λ us vs. (t : Tried) → Memᴰ t vs → Memᴰ t us ⊎ (t.id ≡ n))
      (λ t m. inr (ap (λ (x : Tried). x.id) (Memᴰ.eq_of_singleton m)))
      (λ t us e f v m. inl m)
      (λ t us e f v m. ⊎_elim (λ i. inr (ap (λ (x : Tried). x.id) i)) (λ k. inl (Memᴰ.tail k)) (Memᴰ.cases_cons m))
      (λ t us e ih v m. ⊎_elim (λ i. inl (Memᴰ.head i)) (λ k. ⊎_elim (λ g. inl (Memᴰ.tail g)) (λ g. inr g) (ih v k)) (Memᴰ.cases_cons m))
      ts

-- ---- what was spent: each count, up to a most

unfoldable pub spent : ℕ → List Tried → ℕ
spent most [] = 0
spent most (t ∷ ts) = min t.count most + spent most ts

pub spent_least : (most : ℕ) (ts : List Tried) → spent most ts ≤ length ts * most
unfolding spent
spent_least most [] = omega arith
spent_least most (t ∷ ts) = let k = spent_least most ts in let e = suc-mul (length ts) most in omega arith

module _ (most : ℕ) (a p : Name) (at n : ℕ) where
  pub spent_more : (ts : List Tried) → spent most ts ≤ spent most (try_more a p at n ts)
  unfolding spent
  spent_more =
      more_cases a p at n (λ us vs. spent most us ≤ spent most vs) (omega arith) (λ t us e f. omega arith) (λ t us e f. let k = count_more t.count in omega arith) (λ t us e ih. omega arith)

  pub spent_one : most ≤ 64 → (ts : List Tried) → ((t : Tried) → tried_of a p ts ≡ Some t → t.id ≡ n → ⊥) → count_of (tried_of a p ts) < most → spent most (try_more a p at n ts) ≡ spent most ts + 1
  unfolding spent first
  spent_one few =
      more_cases a p at n (λ us vs. ((t : Tried) → tried_of a p us ≡ Some t → t.id ≡ n → ⊥) → count_of (tried_of a p us) < most → spent most vs ≡ spent most us + 1)
      (λ new l. omega arith)
      (λ t us e f new l. absurd (new t (first_here (is_word a p) t us e) (eqb-true t.id n f)))
      (λ t us e f new l.
      let k = ap count_of (first_here (is_word a p) t us e) in
      let z = count_once t.count (omega arith) in
      omega arith)
      (λ t us e ih new l.
      let x = first_there (is_word a p) t us e in
      let k = ap count_of x in
      let z = ih (λ v g. new v (x ∙ g)) (omega arith) in
      omega arith)
