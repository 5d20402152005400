-- What searches of a slice of sets answer.
use Rattle.std.proofs.Common.{◌≡◌, ℕ, Bool, true, false, cond, ◌||◌, eqb, List, [], ◌∷◌, map, length, is_some, Some, sym, refl, ap, ◌∙◌}
use Rattle.std.specs.List.{list_any}
use Rattle.std.proofs.lemmas.Bool.{cond-true, cond-false, ne_eqb}
use Rattle.names.specs.Wire.{wire}
use Rattle.meaning.specs.Model.{Set}
use Rattle.meaning.specs.Says.{same, find}
use Rattle.meaning.proofs.Rules.{same_so}
use Rattle.zones.specs.Valid.{clash, clashes}

module _ {A : Type 0} (of : A → Set) where
  pub any_of : (test : Set → Bool) (xs : List A) → list_any (λ x. test (of x)) xs ≡ list_any test (map of xs)
  any_of test [] = refl
  any_of test (x ∷ xs) = ap (λ b. test (of x) || b) (any_of test xs)

pub any_found : (test : Set → Bool) (ss : List Set) → list_any test ss ≡ is_some (find test ss)
unfolding find
any_found test [] = refl
any_found test (s ∷ ss) = go (test s) refl (any_found test ss)
  where
    go : (b : Bool) → test s ≡ b → list_any test ss ≡ is_some (find test ss) → (test s || list_any test ss) ≡ is_some (cond (test s) (Some s) (find test ss))
    go true e ih = ap (λ b. b || list_any test ss) e ∙ ap is_some (sym (cond-true (test s) (Some s) (find test ss) e))
    go false e ih = ap (λ b. b || list_any test ss) e ∙ ih ∙ ap is_some (sym (cond-false (test s) (Some s) (find test ss) e))

pub any_clashes : (s : Set) (ss : List Set) → list_any (clash s) ss ≡ clashes s ss
any_clashes s [] = refl
any_clashes s (t ∷ ss) = ap (λ b. clash s t || b) (any_clashes s ss)

-- names of different lengths are different
pub apart_by_length : (a b : List (List ℕ)) (m n : ℕ) → m ≡ length (wire a) → n ≡ length (wire b) → (m ≡ n → ⊥) → eqb m n ≡ same a b
apart_by_length a b m n e f h = ne_eqb m n h ∙ sym (go (same a b) refl)
  where
    go : (c : Bool) → same a b ≡ c → same a b ≡ false
    go false k = k
    go true k = absurd (h (e ∙ ap (λ x. length (wire x)) (same_so a b k) ∙ sym f))
