-- The nearest server below a number, as the servers are gone through from the first.
use Rattle.std.proofs.Common.{◌≡◌, ℕ, ◌+◌, ◌<◌, ◌≤◌, ◌⊎◌, None, Some, Option, ap, ◌∙◌, inl, inr, arith}
use Rattle.std.proofs.lemmas.Bool.{cases_lt}
use Rattle.valley.specs.Having.{Had, IsNearest}

module _ (f : ℕ → Option Had) where
  pub none_yet : IsNearest f 1 None
  none_yet t low high = absurd (omega arith)

  -- one more that has it is the nearest
  pub one_more : (n : ℕ) → 1 ≤ n → (h : Had) → f n ≡ Some h → IsNearest f (n + 1) (Some h)
  one_more n low h e = (n, low, omega arith, e, λ t l m. absurd (omega arith))

  at_last : (n t : ℕ) → f n ≡ None → t < n + 1 → (t < n → f t ≡ None) → f t ≡ None
  at_last n t e m rest = go (cases_lt t n)
    where
      go : (t < n) ⊎ (n ≤ t) → f t ≡ None
      go (inl l) = rest l
      go (inr l) = let i : t ≡ n = omega arith in ap f i ∙ e

  -- one that hasn't changes nothing
  pub none_more : (n : ℕ) → (o : Option Had) → f n ≡ None → IsNearest f n o → IsNearest f (n + 1) o
  none_more n None e i = λ t low high. at_last n t e high (λ m. i t low m)
  none_more n (Some h) e (s, low, high, at, rest) = (s, low, omega arith, at, λ t l m. at_last n t e m (λ k. rest t l k))

  pub at_end : (n m : ℕ) → (o : Option Had) → IsNearest f n o → m ≤ n → (n ≤ m) ⊎ (n ≤ 1) → IsNearest f m o
  at_end n m None i l c = λ t low high. i t low (omega arith)
  at_end n m (Some h) (s, low, high, at, rest) l (inl c) = (s, low, omega arith, at, λ t u v. rest t u (omega arith))
  at_end n m (Some h) (s, low, high, at, rest) l (inr c) = absurd (omega arith)
