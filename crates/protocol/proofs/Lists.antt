-- What is found in lists, and what is kept of them.
use Rattle.std.proofs.Common.{◌≡◌, ℕ, Bool, true, false, ◌⊎◌, List, [], ◌∷◌, Some, None, Option, sym, refl, ap, ◌∙◌, subst, inl, inr, ⊎_elim, true≢false, arith}
use mathlib.Core.List.Memᴰ
use mathlib.Core.List.{Memᴰ}
use Rattle.std.proofs.lemmas.Bool.{cond-true, cond-false, or_cases, or_from, or_left, or_right}
use Rattle.protocol.specs.Lists.{first, kept, any}

pub some_is : {A : Type 0} (x y : A) → Some x ≡ Some y → x ≡ y
some_is x y h = cc

pub some_none : {A : Type 0} (x : A) → None ≡ Some x → ⊥
some_none x e = let w : ◌≡◌ {A = ℕ} 0 1 = cc in omega arith

pub test_of : {A : Type 0} (test : A → Bool) (x y : A) → x ≡ y → test y ≡ true → test x ≡ true
test_of test x y e h = ap test e ∙ h

module _ {A : Type 0} (test : A → Bool) where
  pub first_here : (x : A) (xs : List A) → test x ≡ true → first test (x ∷ xs) ≡ Some x
  unfolding first
  first_here x xs e = cond-true (test x) (Some x) (first test xs) e

  pub first_there : (x : A) (xs : List A) → test x ≡ false → first test (x ∷ xs) ≡ first test xs
  unfolding first
  first_there x xs e = cond-false (test x) (Some x) (first test xs) e

  pub first_some : (xs : List A) (x : A) → first test xs ≡ Some x → Memᴰ x xs × (test x ≡ true)
  unfolding first
  first_some [] x e = absurd (some_none x e)
  first_some (y ∷ ys) x e = go (test y) refl (first_some ys x)
    where
      go : (b : Bool) → test y ≡ b → (first test ys ≡ Some x → Memᴰ x ys × (test x ≡ true)) → Memᴰ x (y ∷ ys) × (test x ≡ true)
      go true f ih = let i = some_is y x (sym (first_here y ys f) ∙ e) in (Memᴰ.head (sym i), test_of test x y (sym i) f)
      go false f ih = let p = ih (sym (first_there y ys f) ∙ e) in (Memᴰ.tail p.0, p.1)

  pub first_none : (xs : List A) → first test xs ≡ None → (x : A) → Memᴰ x xs → test x ≡ true → ⊥
  unfolding first
  first_none [] e x m h = Memᴰ.not-nil m
  first_none (y ∷ ys) e x m h = go (test y) refl (first_none ys)
    where
      go : (b : Bool) → test y ≡ b → (first test ys ≡ None → (x : A) → Memᴰ x ys → test x ≡ true → ⊥) → ⊥
      go true f ih = some_none y (sym e ∙ first_here y ys f)
      go false f ih = ⊎_elim (λ i. true≢false (sym h ∙ ap test i ∙ f)) (λ n. ih (sym (first_there y ys f) ∙ e) x n h) (Memᴰ.cases_cons m)

  -- where one passes, the first is one of those
  pub first_found : (xs : List A) (x : A) → Memᴰ x xs → test x ≡ true → (y : A) × (first test xs ≡ Some y)
  first_found xs x m h = go (first test xs) refl
    where
      go : (o : Option A) → first test xs ≡ o → (y : A) × (first test xs ≡ Some y)
      go None e = absurd (first_none xs e x m h)
      go (Some y) e = (y, e)

  pub kept_here : (x : A) (xs : List A) → test x ≡ true → kept test (x ∷ xs) ≡ x ∷ kept test xs
  unfolding kept
  kept_here x xs e = cond-true (test x) (x ∷ kept test xs) (kept test xs) e

  pub kept_not : (x : A) (xs : List A) → test x ≡ false → kept test (x ∷ xs) ≡ kept test xs
  unfolding kept
  kept_not x xs e = cond-false (test x) (x ∷ kept test xs) (kept test xs) e

  pub kept_in : (xs : List A) (x : A) → Memᴰ x (kept test xs) → Memᴰ x xs × (test x ≡ true)
  unfolding kept
  kept_in [] x m = absurd (Memᴰ.not-nil m)
  kept_in (y ∷ ys) x m = go (test y) refl (kept_in ys x)
    where
      more : Memᴰ x ys × (test x ≡ true) → Memᴰ x (y ∷ ys) × (test x ≡ true)
      more p = (Memᴰ.tail p.0, p.1)

      go : (b : Bool) → test y ≡ b → (Memᴰ x (kept test ys) → Memᴰ x ys × (test x ≡ true)) → Memᴰ x (y ∷ ys) × (test x ≡ true)
      go true f ih = ⊎_elim (λ i. (Memᴰ.head i, test_of test x y i f)) (λ n. more (ih n)) (Memᴰ.cases_cons (subst (Memᴰ x) (kept_here y ys f) m))
      go false f ih = more (ih (subst (Memᴰ x) (kept_not y ys f) m))

  pub in_kept : (xs : List A) (x : A) → Memᴰ x xs → test x ≡ true → Memᴰ x (kept test xs)
  in_kept [] x m h = absurd (Memᴰ.not-nil m)
  in_kept (y ∷ ys) x m h = go (test y) refl (λ n. in_kept ys x n h)
    where
      go : (b : Bool) → test y ≡ b → (Memᴰ x ys → Memᴰ x (kept test ys)) → Memᴰ x (kept test (y ∷ ys))
      go true f ih = subst (Memᴰ x) (sym (kept_here y ys f)) (⊎_elim (λ i. Memᴰ.head i) (λ n. Memᴰ.tail (ih n)) (Memᴰ.cases_cons m))
      go false f ih = subst (Memᴰ x) (sym (kept_not y ys f)) (⊎_elim (λ i. absurd (true≢false (sym h ∙ ap test i ∙ f))) ih (Memᴰ.cases_cons m))

  pub any_some : (xs : List A) → any test xs ≡ true → (x : A) × Memᴰ x xs × (test x ≡ true)
  unfolding any
  any_some [] e = absurd (true≢false (sym e))
  any_some (y ∷ ys) e = go (any_some ys) (or_cases (test y) (any test ys) e)
    where
      go : (any test ys ≡ true → (x : A) × Memᴰ x ys × (test x ≡ true)) → (test y ≡ true) ⊎ (any test ys ≡ true) → (x : A) × Memᴰ x (y ∷ ys) × (test x ≡ true)
      go ih (inl f) = (y, Memᴰ.head refl, f)
      go ih (inr f) = let p = ih f in (p.0, Memᴰ.tail p.1, p.2)

  pub some_any : (xs : List A) (x : A) → Memᴰ x xs → test x ≡ true → any test xs ≡ true
  unfolding any
  some_any [] x m h = absurd (Memᴰ.not-nil m)
  some_any (y ∷ ys) x m h =
      ⊎_elim (λ i. or_left (test y) (any test ys) (test_of test y x (sym i) h)) (λ n. or_right (test y) (any test ys) (some_any ys x n h)) (Memᴰ.cases_cons m)

  pub any_none : (xs : List A) → any test xs ≡ false → (x : A) → Memᴰ x xs → test x ≡ true → ⊥
  any_none xs e x m h = true≢false (sym (some_any xs x m h) ∙ e)

  pub none_any : (xs : List A) → ((x : A) → Memᴰ x xs → test x ≡ false) → any test xs ≡ false
  unfolding any
  none_any [] h = refl
  none_any (y ∷ ys) h = or_from (test y) (any test ys) (h y (Memᴰ.head refl)) (none_any ys (λ x m. h x (Memᴰ.tail m)))

pub kept_all : {A : Type 0} (test : A → Bool) (xs : List A) → ((x : A) → Memᴰ x xs → test x ≡ true) → kept test xs ≡ xs
unfolding kept
kept_all test [] h = refl
kept_all test (y ∷ ys) h = kept_here test y ys (h y (Memᴰ.head refl)) ∙ ap (λ zs. y ∷ zs) (kept_all test ys (λ x m. h x (Memᴰ.tail m)))

-- the first that passes is still the first where others are dropped
pub first_kept : {A : Type 0} (test keep : A → Bool) (xs : List A) (x : A) → first test xs ≡ Some x → keep x ≡ true → first test (kept keep xs) ≡ Some x
unfolding first kept
first_kept test keep [] x e h = absurd (some_none x e)
first_kept {A} test keep (y ∷ ys) x e h = go (test y) refl (keep y) refl (λ f. first_kept test keep ys x f h)
  where
    go : (b : Bool) → test y ≡ b → (c : Bool) → keep y ≡ c → (first test ys ≡ Some x → first test (kept keep ys) ≡ Some x) → first test (kept keep (y ∷ ys)) ≡ Some x
    go true f true g ih = ap (first test) (kept_here keep y ys g) ∙ first_here test y (kept keep ys) f ∙ sym (first_here test y ys f) ∙ e
    go true f false g ih = absurd (true≢false (sym h ∙ ap keep (sym (some_is y x (sym (first_here test y ys f) ∙ e))) ∙ g))
    go false f true g ih = ap (first test) (kept_here keep y ys g) ∙ first_there test y (kept keep ys) f ∙ ih (sym (first_there test y ys f) ∙ e)
    go false f false g ih = ap (first test) (kept_not keep y ys g) ∙ ih (sym (first_there test y ys f) ∙ e)
