-- The longest front of a list that passes a test.
use Rattle.std.proofs.Common.{◌≡◌, ℕ, suc, ◌+◌, ◌<◌, ◌≤◌, Bool, true, false, cond, not, ltb, List, [], ◌∷◌, ◌++◌, length, drop, Some, None, MatchOption, Option, sym, refl, ap, ◌∙◌, subst, arith}
use Rattle.std.specs.List.{position_or_len}
use Rattle.std.specs.Option.{unwrap_or}
use Rattle.std.proofs.lemmas.Bool.{cond-true, cond-false, ltb-true, ltb-false}
use Rattle.lines.specs.Lines.{run}

module _ (test : ℕ → Bool) where
  pub run_cons : (b : ℕ) (bs : List ℕ) → test b ≡ true → run test (b ∷ bs) ≡ suc (run test bs)
  unfolding run
  run_cons b bs h = cond-true (test b) (suc (run test bs)) 0 h

  pub run_stop : (b : ℕ) (bs : List ℕ) → test b ≡ false → run test (b ∷ bs) ≡ 0
  unfolding run
  run_stop b bs h = cond-false (test b) (suc (run test bs)) 0 h

  pub run_nil : run test [] ≡ 0
  unfolding run
  run_nil = refl

  -- what follows the front doesn't pass
  pub run_after : (xs : List ℕ) → run test (drop (run test xs) xs) ≡ 0
  run_after [] = ap (λ n. run test (drop n [])) run_nil ∙ run_nil
  run_after (b ∷ xs) = go (test b) refl (run_after xs)
    where
      go : (c : Bool) → test b ≡ c → run test (drop (run test xs) xs) ≡ 0 → run test (drop (run test (b ∷ xs)) (b ∷ xs)) ≡ 0
      go true e ih = ap (λ n. run test (drop n (b ∷ xs))) (run_cons b xs e) ∙ ih
      go false e ih = ap (λ n. run test (drop n (b ∷ xs))) (run_stop b xs e) ∙ run_stop b xs e

  -- a front that is followed by what fails
  pub run_append : (xs ys : List ℕ) → run test ys ≡ 0 → run test (xs ++ ys) ≡ run test xs
  run_append [] ys h = h ∙ sym run_nil
  run_append (b ∷ xs) ys h = go (test b) refl (run_append xs ys h)
    where
      go : (c : Bool) → test b ≡ c → run test (xs ++ ys) ≡ run test xs → run test (b ∷ (xs ++ ys)) ≡ run test (b ∷ xs)
      go true e ih = run_cons b (xs ++ ys) e ∙ ap suc ih ∙ sym (run_cons b xs e)
      go false e ih = run_stop b (xs ++ ys) e ∙ sym (run_stop b xs e)

-- ---- as `position` finds it: the first byte that passes ends the front of those that don't

prefix_run : (p : ℕ → Bool) (xs : List ℕ) → position_or_len p xs ≡ run (λ b. not (p b)) xs
unfolding run
prefix_run p [] = refl
prefix_run p (b ∷ xs) =
    let ih = prefix_run p xs in
    let e : 1 + position_or_len p xs ≡ suc (run (λ b. not (p b)) xs) = omega arith in
    ap (λ n. cond (not (p b)) n 0) e

pub found_at : (p : ℕ → Bool) (xs : List ℕ) (r : Option ℕ) → r ≡ cond (ltb (position_or_len p xs) (length xs)) (Some (position_or_len p xs)) None → MatchOption r (length xs ≤ run (λ b. not (p b)) xs) (λ i. (i ≡ run (λ b. not (p b)) xs) × (i < length xs))
found_at p xs r h = subst (λ o. MatchOption o (length xs ≤ run (λ b. not (p b)) xs) (λ i. (i ≡ run (λ b. not (p b)) xs) × (i < length xs))) (sym h) (go (ltb (position_or_len p xs) (length xs)) refl)
  where
    go : (c : Bool) → ltb (position_or_len p xs) (length xs) ≡ c → MatchOption (cond c (Some (position_or_len p xs)) None) (length xs ≤ run (λ b. not (p b)) xs) (λ i. (i ≡ run (λ b. not (p b)) xs) × (i < length xs))
    go true e = (prefix_run p xs, ltb-true (position_or_len p xs) (length xs) e)
    go false e = let l = ltb-false (position_or_len p xs) (length xs) e in let q = prefix_run p xs in omega arith

pub run_within : (test : ℕ → Bool) (xs : List ℕ) → run test xs ≤ length xs
run_within test [] = let z = run_nil test in omega arith
run_within test (b ∷ xs) = go (test b) refl (run_within test xs)
  where
    go : (c : Bool) → test b ≡ c → run test xs ≤ length xs → run test (b ∷ xs) ≤ suc (length xs)
    go true e ih = let z = run_cons test b xs e in omega arith
    go false e ih = let z = run_stop test b xs e in omega arith

-- the front's length: where the first byte that passes stands, or all
pub front_len : (p : ℕ → Bool) (xs : List ℕ) (r : Option ℕ) → r ≡ cond (ltb (position_or_len p xs) (length xs)) (Some (position_or_len p xs)) None → unwrap_or r (length xs) ≡ run (λ b. not (p b)) xs
front_len p xs r h = go r (found_at p xs r h)
  where
    go : (o : Option ℕ) → MatchOption o (length xs ≤ run (λ b. not (p b)) xs) (λ i. (i ≡ run (λ b. not (p b)) xs) × (i < length xs)) → unwrap_or o (length xs) ≡ run (λ b. not (p b)) xs
    go None l = let w = run_within (λ b. not (p b)) xs in omega arith
    go (Some i) m = m.0
