-- Tests of keys, and lists in which no two entries have one key.
use Rattle.std.proofs.Common.{◌≡◌, ℕ, zero, suc, ◌<◌, Bool, true, false, not, ◌&&◌, eqb, ◌⊎◌, List, [], ◌∷◌, length, get_or, set, Some, None, Option, sym, refl, ap, ◌∙◌, subst, inl, inr, ⊎_elim, true≢false, arith}
use mathlib.Core.List.Memᴰ
use mathlib.Core.List.{Memᴰ}
use Rattle.std.specs.Option.{option_map}
use Rattle.std.proofs.lemmas.Bool.{cond-true, cond-false, and_parts, and_from, not-true, not_from_false, eqb-true, eq-eqb}
use Rattle.meaning.specs.Says.{same}
use Rattle.meaning.proofs.Rules.{same_so, so_same}
use Rattle.protocol.specs.Lists.{any}
use Rattle.protocol.specs.World.{Entry, is_key}
use Rattle.protocol.proofs.Lists.{some_is, some_none, any_none, none_any}
use Rattle.machine.specs.Store.{place_of, one_a_key}

-- ---- keys

-- two entries of one key
pub record SameKey (e f : Entry) : Type 0 where
  pub apex_is : f.apex ≡ e.apex
  pub name_is : f.name ≡ e.name
  pub kind_is : f.kind ≡ e.kind

abbrev pub of_key : Entry → Entry → Bool
of_key e f = is_key e.apex e.name e.kind f

pub key_so : (e f : Entry) → of_key e f ≡ true → SameKey e f
key_so e f h =
    let i = and_parts (same f.apex e.apex && same f.name e.name) (eqb f.kind e.kind) h in
    let j = and_parts (same f.apex e.apex) (same f.name e.name) i.0 in
    record { apex_is = same_so f.apex e.apex j.0; name_is = same_so f.name e.name j.1; kind_is = eqb-true f.kind e.kind i.1 }

pub so_key : (e f : Entry) → SameKey e f → of_key e f ≡ true
so_key e f k =
    and_from (same f.apex e.apex && same f.name e.name) (eqb f.kind e.kind)
    (and_from (same f.apex e.apex) (same f.name e.name) (so_same f.apex e.apex k.apex_is) (so_same f.name e.name k.name_is)) (eq-eqb f.kind e.kind k.kind_is)

pub key_self : (e : Entry) → of_key e e ≡ true
key_self e = so_key e e (record { apex_is = refl; name_is = refl; kind_is = refl })

pub key_turn : (e f : Entry) → of_key e f ≡ true → of_key f e ≡ true
key_turn e f h = let k = key_so e f h in so_key f e (record { apex_is = sym k.apex_is; name_is = sym k.name_is; kind_is = sym k.kind_is })

key_join : (d e f : Entry) → of_key d e ≡ true → of_key d f ≡ true → of_key e f ≡ true
key_join d e f h g =
    let k = key_so d e h in
    let l = key_so d f g in
    so_key e f (record { apex_is = l.apex_is ∙ sym k.apex_is; name_is = l.name_is ∙ sym k.name_is; kind_is = l.kind_is ∙ sym k.kind_is })

-- ---- one entry a key

pub one_tail : (e : Entry) (es : List Entry) → one_a_key (e ∷ es) ≡ true → one_a_key es ≡ true
unfolding one_a_key
one_tail e es h = (and_parts (not (any (of_key e) es)) (one_a_key es) h).1

pub one_head : (e : Entry) (es : List Entry) → one_a_key (e ∷ es) ≡ true → (f : Entry) → Memᴰ f es → of_key e f ≡ true → ⊥
unfolding one_a_key
one_head e es h = any_none (of_key e) es (not-true (any (of_key e) es) (and_parts (not (any (of_key e) es)) (one_a_key es) h).0)

pub one_more : (e : Entry) (es : List Entry) → one_a_key es ≡ true → ((f : Entry) → Memᴰ f es → of_key e f ≡ true → ⊥) → one_a_key (e ∷ es) ≡ true
unfolding one_a_key
one_more e es h g = and_from (not (any (of_key e) es)) (one_a_key es) (not_from_false (any (of_key e) es) (none_any (of_key e) es (λ f m. false_of f m (of_key e f) refl))) h
  where
    false_of : (f : Entry) → Memᴰ f es → (b : Bool) → of_key e f ≡ b → of_key e f ≡ false
    false_of f m true i = absurd (g f m i)
    false_of f m false i = i

-- those of one key are one
pub one_of : (es : List Entry) → one_a_key es ≡ true → (e f : Entry) → Memᴰ e es → Memᴰ f es → of_key e f ≡ true → e ≡ f
one_of [] h e f m n k = absurd (Memᴰ.not-nil m)
one_of (x ∷ xs) h e f m n k = go (one_of xs (one_tail x xs h) e f) (Memᴰ.cases_cons m) (Memᴰ.cases_cons n)
  where
    go : (Memᴰ e xs → Memᴰ f xs → of_key e f ≡ true → e ≡ f) → (e ≡ x) ⊎ Memᴰ e xs → (f ≡ x) ⊎ Memᴰ f xs → e ≡ f
    go ih (inl a) (inl b) = a ∙ sym b
    go ih (inl a) (inr b) = absurd (one_head x xs h f b (subst (λ y. of_key y f ≡ true) a k))
    go ih (inr a) (inl b) = absurd (one_head x xs h e a (key_turn e x (subst (λ y. of_key e y ≡ true) b k)))
    go ih (inr a) (inr b) = ih a b k

-- ---- an entry in the place of another

module _ (test : Entry → Bool) where
  pub place_here : (e : Entry) (es : List Entry) → test e ≡ true → place_of test (e ∷ es) ≡ Some 0
  unfolding place_of
  place_here e es h = cond-true (test e) (Some 0) (option_map suc (place_of test es)) h

  pub place_there : (e : Entry) (es : List Entry) → test e ≡ false → place_of test (e ∷ es) ≡ option_map suc (place_of test es)
  unfolding place_of
  place_there e es h = cond-false (test e) (Some 0) (option_map suc (place_of test es)) h

  pub place_none : (es : List Entry) → place_of test es ≡ None → (f : Entry) → Memᴰ f es → test f ≡ true → ⊥
  unfolding place_of
  place_none [] e f m h = Memᴰ.not-nil m
  place_none (x ∷ xs) e f m h = go (test x) refl (place_of test xs) refl (place_none xs)
    where
      go : (b : Bool) → test x ≡ b → (o : Option ℕ) → place_of test xs ≡ o → (place_of test xs ≡ None → (f : Entry) → Memᴰ f xs → test f ≡ true → ⊥) → ⊥
      go true t o p ih = some_none 0 (sym e ∙ place_here x xs t)
      go false t (Some i) p ih = some_none (suc i) (sym e ∙ place_there x xs t ∙ ap (option_map suc) p)
      go false t None p ih = ⊎_elim (λ i. true≢false (sym h ∙ ap test i ∙ t)) (λ n. ih p f n h) (Memᴰ.cases_cons m)

  -- an entry at a place, in a list of which at most one passes
  abbrev pub AtMostOne : List Entry → Type 0
  AtMostOne es = (e f : Entry) → Memᴰ e es → Memᴰ f es → test e ≡ true → test f ≡ true → e ≡ f

  -- the place of the one that passes
  pub data Placed : List Entry → ℕ → Type 0 where
    at_head : (e : Entry) (es : List Entry) → test e ≡ true → ((f : Entry) → Memᴰ f es → test f ≡ true → ⊥) → Placed (e ∷ es) 0
    behind_it : (e : Entry) (es : List Entry) (i : ℕ) → test e ≡ false → Placed es i → Placed (e ∷ es) (suc i)

  pub placed_at : (es : List Entry) (i : ℕ) → Placed es i → (i < length es) × ((d : Entry) → Memᴰ (get_or es i d) es × (test (get_or es i d) ≡ true))
  placed_at es i (at_head e xs h g) = (omega arith, λ d. (Memᴰ.head refl, h))
  placed_at es i (behind_it e xs j h p) = let r = placed_at xs j p in let l = r.0 in (omega arith, λ d. (Memᴰ.tail (r.1 d).0, (r.1 d).1))

  pub set_length : (es : List Entry) (i : ℕ) (e : Entry) → Placed es i → length (set es i e) ≡ length es
  set_length es i e (at_head x xs h g) = refl
  set_length es i e (behind_it x xs j h p) = ap suc (set_length xs j e p)

  abbrev pub Left : Entry → List Entry → Entry → Type 0
  Left e es f = (f ≡ e) ⊎ (Memᴰ f es × (test f ≡ false))

  pub set_in : (es : List Entry) (i : ℕ) (e f : Entry) → Placed es i → Memᴰ f (set es i e) → Left e es f
  set_in es i e f (at_head x xs h g) m = ⊎_elim (λ a. inl a) (λ n. inr (Memᴰ.tail n, not_it (test f) refl n)) (Memᴰ.cases_cons m)
    where
      not_it : (b : Bool) → test f ≡ b → Memᴰ f xs → test f ≡ false
      not_it true a n = absurd (g f n a)
      not_it false a n = a
  set_in es i e f (behind_it x xs j h p) m =
      ⊎_elim (λ a. inr (Memᴰ.head a, ap test a ∙ h)) (λ n. ⊎_elim (λ a. inl a) (λ b. inr (Memᴰ.tail b.0, b.1)) (set_in xs j e f p n)) (Memᴰ.cases_cons m)

  pub in_set : (es : List Entry) (i : ℕ) (e f : Entry) → Placed es i → Left e es f → Memᴰ f (set es i e)
  in_set es i e f (at_head x xs h g) (inl a) = Memᴰ.head a
  in_set es i e f (at_head x xs h g) (inr b) = ⊎_elim (λ a. absurd (true≢false (sym h ∙ ap test (sym a) ∙ b.1))) (λ n. Memᴰ.tail n) (Memᴰ.cases_cons b.0)
  in_set es i e f (behind_it x xs j h p) (inl a) = Memᴰ.tail (in_set xs j e f p (inl a))
  in_set es i e f (behind_it x xs j h p) (inr b) = ⊎_elim (λ a. Memᴰ.head a) (λ n. Memᴰ.tail (in_set xs j e f p (inr (n, b.1)))) (Memᴰ.cases_cons b.0)

  -- still one a key, if the new one has the key of none that stays
  pub set_one : (es : List Entry) (i : ℕ) (e : Entry) → Placed es i → one_a_key es ≡ true → ((f : Entry) → Memᴰ f es → test f ≡ false → of_key e f ≡ true → ⊥) → one_a_key (set es i e) ≡ true
  set_one es i e (at_head x xs h g) o fresh =
      one_more e xs (one_tail x xs o) (λ f m k. fresh f (Memᴰ.tail m) (not_it f m (test f) refl) k)
    where
      not_it : (f : Entry) → Memᴰ f xs → (b : Bool) → test f ≡ b → test f ≡ false
      not_it f m true a = absurd (g f m a)
      not_it f m false a = a
  set_one es i e (behind_it x xs j h p) o fresh =
      one_more x (set xs j e) (set_one xs j e p (one_tail x xs o) (λ f m t k. fresh f (Memᴰ.tail m) t k))
      (λ f m k. ⊎_elim (λ a. fresh x (Memᴰ.head refl) h (key_turn x e (subst (λ y. of_key x y ≡ true) a k))) (λ b. one_head x xs o f b.0 k) (set_in xs j e f p m))

-- the place that a key's test gives
pub placed : (k : Entry) (es : List Entry) (i : ℕ) → one_a_key es ≡ true → place_of (of_key k) es ≡ Some i → Placed (of_key k) es i
unfolding place_of
placed k [] i o e = absurd (some_none i e)
placed k (x ∷ xs) i o e = go (of_key k x) refl (place_of (of_key k) xs) refl (λ j. placed k xs j (one_tail x xs o))
  where
    go : (b : Bool) → of_key k x ≡ b → (q : Option ℕ) → place_of (of_key k) xs ≡ q → ((j : ℕ) → place_of (of_key k) xs ≡ Some j → Placed (of_key k) xs j) → Placed (of_key k) (x ∷ xs) i
    go true t q p ih = subst (Placed (of_key k) (x ∷ xs)) (some_is 0 i (sym (place_here (of_key k) x xs t) ∙ e)) (at_head x xs t (λ f m h. one_head x xs o f m (key_join k x f t h)))
    go false t None p ih = absurd (some_none i (sym (ap (option_map suc) p) ∙ sym (place_there (of_key k) x xs t) ∙ e))
    go false t (Some j) p ih = subst (Placed (of_key k) (x ∷ xs)) (some_is (suc j) i (sym (ap (option_map suc) p) ∙ sym (place_there (of_key k) x xs t) ∙ e)) (behind_it x xs j t (ih j p))

-- every entry stands at the place of its key
pub placed_self : (es : List Entry) (i : ℕ) (d : Entry) → one_a_key es ≡ true → i < length es → Placed (of_key (get_or es i d)) es i
placed_self [] i d o l = absurd (omega arith)
placed_self (x ∷ xs) zero d o l = at_head x xs (key_self x) (one_head x xs o)
placed_self (x ∷ xs) (suc i) d o l = further (placed_self xs i d (one_tail x xs o) (omega arith))
  where
    not_head : Placed (of_key (get_or xs i d)) xs i → (b : Bool) → of_key (get_or xs i d) x ≡ b → of_key (get_or xs i d) x ≡ false
    not_head ih true h = absurd (one_head x xs o (get_or xs i d) ((placed_at (of_key (get_or xs i d)) xs i ih).1 d).0 (key_turn (get_or xs i d) x h))
    not_head ih false h = h

    further : Placed (of_key (get_or xs i d)) xs i → Placed (of_key (get_or xs i d)) (x ∷ xs) (suc i)
    further ih = behind_it x xs i (not_head ih (of_key (get_or xs i d) x) refl) ih
