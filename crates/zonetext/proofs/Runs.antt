-- The longest front of a list that passes a test, where the test is told in other words.
use Rattle.std.proofs.Common.{◌≡◌, ℕ, zero, suc, ◌<◌, Bool, true, false, cond, not, eqb, ltb, List, [], ◌∷◌, length, get_or, Some, None, Option, refl, sym, ap, ◌∙◌, arith}
use Rattle.std.specs.List.{position_or_len}
use Rattle.std.specs.Option.{unwrap_or}
use Rattle.lines.specs.Lines.{run}
use Rattle.lines.proofs.Runs.{run_nil, run_stop, run_cons}
use Rattle.memchr.specs.Find.{IsFirstByte, is_byte}
use Rattle.lines.proofs.Runs as lines

-- tests that agree
run_same : (f g : ℕ → Bool) → ((b : ℕ) → f b ≡ g b) → (xs : List ℕ) → run f xs ≡ run g xs
unfolding run
run_same f g h [] = refl
run_same f g h (b ∷ xs) = λ i. cond (h b i) (suc (run_same f g h xs i)) 0

-- the front's length: where the first byte that ends it stands, or all
pub front_len : (p test : ℕ → Bool) → ((b : ℕ) → not (p b) ≡ test b) → (xs : List ℕ) (r : Option ℕ) → r ≡ cond (ltb (position_or_len p xs) (length xs)) (Some (position_or_len p xs)) None → unwrap_or r (length xs) ≡ run test xs
front_len p test same xs r h = lines.front_len p xs r h ∙ run_same (λ b. not (p b)) test same xs

-- ---- as `memchr` finds it

module _ (a : ℕ) where
  abbrev other : ℕ → Bool
  other b = not (eqb b a)

  -- no byte at any index
  none_there : (xs : List ℕ) → ((k : ℕ) → k < length xs → eqb (get_or xs k 0) a ≡ true → ⊥) → length xs ≡ run other xs
  none_there [] h = sym (run_nil other)
  none_there (b ∷ xs) h = go (eqb b a) refl (none_there xs (λ k l t. h (suc k) (omega arith) t))
    where
      go : (c : Bool) → eqb b a ≡ c → length xs ≡ run other xs → suc (length xs) ≡ run other (b ∷ xs)
      go true e ih = absurd (h 0 (omega arith) e)
      go false e ih = ap suc ih ∙ sym (run_cons other b xs (ap not e))

  -- the byte at an index, and at none before
  some_there : (xs : List ℕ) (k : ℕ) → k < length xs → ((j : ℕ) → j < k → eqb (get_or xs j 0) a ≡ true → ⊥) → eqb (get_or xs k 0) a ≡ true → k ≡ run other xs
  some_there [] k l h t = absurd (omega arith)
  some_there (b ∷ xs) zero l h t = sym (run_stop other b xs (ap not t))
  some_there (b ∷ xs) (suc k) l h t = go (eqb b a) refl (some_there xs k (omega arith) (λ j m u. h (suc j) (omega arith) u) t)
    where
      go : (c : Bool) → eqb b a ≡ c → k ≡ run other xs → suc k ≡ run other (b ∷ xs)
      go true e ih = absurd (h 0 (omega arith) e)
      go false e ih = ap suc ih ∙ sym (run_cons other b xs (ap not e))

  pub first_byte : (xs : List ℕ) (r : Option ℕ) → IsFirstByte (is_byte a) xs r → unwrap_or r (length xs) ≡ run other xs
  first_byte xs None h = none_there xs (λ k l t. h k (omega arith) l t)
  first_byte xs (Some k) h = let f = h.0 in some_there xs k f.high (λ j l t. f.before j (omega arith) l t) h.1
