-- One more try, by the place of its word.
use Rattle.std.proofs.Common.{◌≡◌, ℕ, ◌<◌, ◌≤◌, Bool, true, false, cond, not, eqb, leb, List, [], ◌∷◌, ◌++◌, map, length, get_or, set, is_some, Some, None, Ok, Err, MatchResult, Option, Result, true≢false, sym, refl, ap, ◌∙◌, le-leb, arith}
use mathlib.Core.List.{map-append}
use lib.ListN.{length-map}
use borrow.Author.Tests.{lt-leb}
use Rattle.std.proofs.lemmas.List.{map-set, get_or-map}
use Rattle.std.proofs.lemmas.Bool.{cond-true, cond-false}
use Rattle.protocol.specs.Words.{Name}
use Rattle.machine.specs.Store.{place_of}
use Rattle.machine.specs.Machine.{Tried, Question, count_up, is_word, tried_of, too_many, try_more}
use Rattle.questions.specs.Tries.{tried_first, tried_again, with_tries, counted}
use Rattle.questions.proofs.Finding.{Stands, at_head, behind, Lacks, at_end, past, stands, lacks, first_stands, first_lacks}

module _ (a p : Name) (at n : ℕ) where
  -- the last query's tries stay as they are
  by_last : (t : Tried) (us : List Tried) → try_more a p at n (t ∷ us) ≡ cond (is_word a p t) (tried_again at n t ∷ us) (t ∷ try_more a p at n us)
  unfolding try_more
  by_last t us = go (eqb t.id n)
    where
      new : Tried
      new = record { apex = t.apex; name = t.name; count = count_up t.count; place = at; id = n }

      go : (b : Bool) → cond (is_word a p t) (cond b (t ∷ us) (new ∷ us)) (t ∷ try_more a p at n us) ≡ cond (is_word a p t) (cond b t new ∷ us) (t ∷ try_more a p at n us)
      go true = refl
      go false = refl

  pub at_place : (ts : List Tried) (i : ℕ) (d : Tried) → Stands (is_word a p) ts i → try_more a p at n ts ≡ set ts i (tried_again at n (get_or ts i d))
  at_place ts i d (at_head t us h) = by_last t us ∙ cond-true (is_word a p t) (tried_again at n t ∷ us) (t ∷ try_more a p at n us) h
  at_place ts i d (behind t us j h s) = by_last t us ∙ cond-false (is_word a p t) (tried_again at n t ∷ us) (t ∷ try_more a p at n us) h ∙ ap (λ vs. t ∷ vs) (at_place us j d s)

  pub appended : (ts : List Tried) → Lacks (is_word a p) ts → try_more a p at n ts ≡ ts ++ tried_first a p at n ∷ []
  unfolding try_more
  appended ts at_end = refl
  appended ts (past t us h s) = by_last t us ∙ cond-false (is_word a p t) (tried_again at n t ∷ us) (t ∷ try_more a p at n us) h ∙ ap (λ vs. t ∷ vs) (appended us s)

-- the element at a place, and what comes in its place
module _ {X : Type 0} (f : X → Tried) (xs : List X) (at n i : ℕ) (x y : X) where
  pub counted_again : i < length xs → x ≡ get_or xs i x → f y ≡ tried_again at n (f x) → (d : Tried) → map f (set xs i y) ≡ set (map f xs) i (tried_again at n (get_or (map f xs) i d))
  counted_again l e g d = map-set f xs i y ∙ ap (set (map f xs) i) (g ∙ ap (tried_again at n) (sym (get_or-map f xs i x d l ∙ ap f (sym e))))

-- ---- whether a word more may be used, and what counting leaves

module _ (a p : Name) (ts : List Tried) where
  pub some_usable : (i : ℕ) (d : Tried) → Stands (is_word a p) ts i → too_many (tried_of a p ts) ts ≡ false
  some_usable i d s = ap (λ o. too_many o ts) (first_stands (is_word a p) ts i d s)

  pub none_usable : Lacks (is_word a p) ts → too_many (tried_of a p ts) ts ≡ leb 24 (length ts)
  none_usable s = ap (λ o. too_many o ts) (first_lacks (is_word a p) ts s)

  -- by whether its tries were found
  pub usable : true ≡ is_some (place_of (is_word a p) ts) → true ≡ not (too_many (tried_of a p ts) ts)
  usable = go (place_of (is_word a p) ts) refl
    where
      go : (o : Option ℕ) → o ≡ place_of (is_word a p) ts → true ≡ is_some o → true ≡ not (too_many (tried_of a p ts) ts)
      go None e h = absurd (true≢false h)
      go (Some i) e h = sym (ap not (some_usable i (tried_first a p 0 0) (stands (is_word a p) ts i e)))

  pub unknown : false ≡ is_some (place_of (is_word a p) ts) → too_many (tried_of a p ts) ts ≡ leb 24 (length ts)
  unknown = go (place_of (is_word a p) ts) refl
    where
      go : (o : Option ℕ) → o ≡ place_of (is_word a p) ts → false ≡ is_some o → too_many (tried_of a p ts) ts ≡ leb 24 (length ts)
      go None e h = none_usable (lacks (is_word a p) ts e)
      go (Some i) e h = absurd (true≢false (sym h))

-- a question v after a try of u was counted
module _ (a p : Name) (at n : ℕ) (u v : Question) where
  pub counts_place : (i : ℕ) (d : Tried) → Stands (is_word a p) u.tries i → v ≡ with_tries (set u.tries i (tried_again at n (get_or u.tries i d))) u → v ≡ counted a p at n u
  counts_place i d s e =
      e ∙ ap (λ ts. with_tries ts u) (sym (at_place a p at n u.tries i d s))
      ∙ sym (cond-false (too_many (tried_of a p u.tries) u.tries) u (with_tries (try_more a p at n u.tries) u) (some_usable a p u.tries i d s))

  pub counts_new : (t : Tried) → Lacks (is_word a p) u.tries → length u.tries < 24 → t ≡ tried_first a p at n → v ≡ with_tries (u.tries ++ t ∷ []) u → v ≡ counted a p at n u
  counts_new t s l g e =
      e ∙ ap (λ t. with_tries (u.tries ++ t ∷ []) u) g ∙ ap (λ ts. with_tries ts u) (sym (appended a p at n u.tries s))
      ∙ sym (cond-false (too_many (tried_of a p u.tries) u.tries) u (with_tries (try_more a p at n u.tries) u) (none_usable a p u.tries s ∙ lt-leb 24 (length u.tries) l))

  pub counts_no_more : Lacks (is_word a p) u.tries → 24 ≤ length u.tries → v ≡ u → v ≡ counted a p at n u
  counts_no_more s l e =
      e ∙ sym (cond-true (too_many (tried_of a p u.tries) u.tries) u (with_tries (try_more a p at n u.tries) u) (none_usable a p u.tries s ∙ le-leb 24 (length u.tries) l))

-- a first try was pushed, where there was room
pub counts_pushed : {X : Type 0} (f : X → Tried) (a p : Name) (at n : ℕ) (w : Question) (xs ys : List X) (x : X) (r : Result (Unit {0}) X) → MatchResult r (λ _. (length xs < 24) × (ys ≡ xs ++ x ∷ [])) (λ y. (24 ≤ length xs) × (y ≡ x) × (ys ≡ xs)) → Lacks (is_word a p) (map f xs) → f x ≡ tried_first a p at n → with_tries (map f ys) w ≡ counted a p at n (with_tries (map f xs) w)
counts_pushed f a p at n w xs ys x (Ok u) h s g =
    let m = length-map xs f in
    counts_new a p at n (with_tries (map f xs) w) (with_tries (map f ys) w) (f x) s (omega (arith, h.0)) g (ap (λ zs. with_tries zs w) (ap (map f) h.1 ∙ map-append f xs (x ∷ [])))
counts_pushed f a p at n w xs ys x (Err y) h s g =
    let m = length-map xs f in
    counts_no_more a p at n (with_tries (map f xs) w) (with_tries (map f ys) w) s (omega (arith, h.0)) (ap (λ zs. with_tries (map f zs) w) h.2)
