-- What the reading functions answer in each of their cases.
use Rattle.std.proofs.Common.{◌≡◌, ℕ, nat_eq, ◌+◌, ◌-◌, ◌<◌, ◌≤◌, Bool, true, false, cond, eqb, ◌&&◌, List, [], ◌∷◌, ◌++◌, length, get_or, take, drop, Ok, sym, refl, ap, ◌∙◌, true≢false, arith}
use Rattle.std.specs.Cmp.Lexicographic.{pointwise}
use Rattle.std.proofs.lemmas.List.{drop_more, drop_all}
use Rattle.std.proofs.lemmas.Bool.{cond-true, cond-false, ne_eqb}
use Rattle.names.specs.Names.{name_of}
use Rattle.names.specs.Reading.{labels_in, last_dot, is_dot, read_name, read_below}

module _ (t : List ℕ) where
  pub read_dot : is_dot t ≡ true → read_name t ≡ Ok []
  unfolding read_name
  read_dot h = cond-true (is_dot t) (Ok []) (name_of (labels_in t)) h

  pub read_labels : is_dot t ≡ false → read_name t ≡ name_of (labels_in t)
  unfolding read_name
  read_labels h = cond-false (is_dot t) (Ok []) (name_of (labels_in t)) h

  module _ (apex : List (List ℕ)) where
    pub below_dot : is_dot t ≡ true → read_below apex t ≡ Ok []
    unfolding read_below
    below_dot h = ap (λ b. cond b (Ok []) (cond (last_dot t) (name_of (labels_in (take (length t - 1) t))) (name_of (apex ++ labels_in t)))) h

    pub below_whole : is_dot t ≡ false → last_dot t ≡ true → read_below apex t ≡ name_of (labels_in (take (length t - 1) t))
    unfolding read_below
    below_whole h k = λ i. cond (h i) (Ok []) (cond (k i) (name_of (labels_in (take (length t - 1) t))) (name_of (apex ++ labels_in t)))

    pub below_short : is_dot t ≡ false → last_dot t ≡ false → read_below apex t ≡ name_of (apex ++ labels_in t)
    unfolding read_below
    below_short h k = λ i. cond (h i) (Ok []) (cond (k i) (name_of (labels_in (take (length t - 1) t))) (name_of (apex ++ labels_in t)))

pub last_there : (t : List ℕ) → last_dot t ≡ true → 0 < length t
last_there [] h = absurd (true≢false (sym h))
last_there (b ∷ t) h = omega arith

-- ---- as the texts are compared

and_true : (c : Bool) → (c && true) ≡ c
and_true true = refl
and_true false = refl

and_false : (c : Bool) → (c && false) ≡ false
and_false true = refl
and_false false = refl

pub same_dot : (t : List ℕ) → pointwise nat_eq t (46 ∷ []) ≡ is_dot t
same_dot [] = refl
same_dot (b ∷ []) = and_true (eqb b 46)
same_dot (b ∷ c ∷ t) =
    let two : eqb (length (b ∷ c ∷ t)) 1 ≡ false = ne_eqb (length (b ∷ c ∷ t)) 1 (λ e. omega arith) in
    and_false (eqb b 46) ∙ ap (λ x. x && last_dot (b ∷ c ∷ t)) (sym two)

pub same_end : (t : List ℕ) → pointwise nat_eq (drop (length t - 1) t) (46 ∷ []) ≡ last_dot t
same_end [] = refl
same_end (b ∷ t) = at (length (b ∷ t) - 1) (omega arith) (omega arith)
  where
    at : (i : ℕ) → i < length (b ∷ t) → length (b ∷ t) ≤ i + 1 → pointwise nat_eq (drop i (b ∷ t)) (46 ∷ []) ≡ eqb (get_or (b ∷ t) i 0) 46
    at i l m = ap (λ x. pointwise nat_eq x (46 ∷ [])) (drop_more (b ∷ t) i 0 l ∙ ap (λ r. get_or (b ∷ t) i 0 ∷ r) (drop_all (i + 1) (b ∷ t) m)) ∙ and_true (eqb (get_or (b ∷ t) i 0) 46)
