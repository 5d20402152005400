-- Texts cut at their dots: one cut at the last dot, and joining what was cut.
use Rattle.std.proofs.Common.{◌≡◌, ℕ, Bool, true, false, cond, not, eqb, List, [], ◌∷◌, ◌++◌, reverse, refl, ap, ◌∙◌}
use mathlib.Core.List.{reverse-append}
use Rattle.std.proofs.lemmas.Bool.{and_parts, not-true, cond-false}
use Rattle.names.specs.Reading.{first_piece, more_pieces, labels_in, dotless}

-- ---- a piece has no dot

pub dotless_first : (t : List ℕ) → dotless t ≡ true → first_piece t ≡ t
unfolding first_piece
dotless_first [] h = refl
dotless_first (b ∷ t) h =
    let p = and_parts (not (eqb b 46)) (dotless t) h in
    cond-false (eqb b 46) [] (b ∷ first_piece t) (not-true (eqb b 46) p.0) ∙ ap (λ x. b ∷ x) (dotless_first t p.1)

pub dotless_more : (t : List ℕ) → dotless t ≡ true → more_pieces t ≡ []
unfolding more_pieces
dotless_more [] h = refl
dotless_more (b ∷ t) h =
    let p = and_parts (not (eqb b 46)) (dotless t) h in
    cond-false (eqb b 46) (first_piece t ∷ more_pieces t) (more_pieces t) (not-true (eqb b 46) p.0) ∙ dotless_more t p.1

-- ---- a cut at the last dot

cut_first : (xs ys : List ℕ) → first_piece (xs ++ 46 ∷ ys) ≡ first_piece xs
unfolding first_piece
cut_first [] ys = refl
cut_first (b ∷ xs) ys = ap (λ p. cond (eqb b 46) [] (b ∷ p)) (cut_first xs ys)

cut_more : (xs ys : List ℕ) → dotless ys ≡ true → more_pieces (xs ++ 46 ∷ ys) ≡ more_pieces xs ++ ys ∷ []
unfolding more_pieces
cut_more [] ys h = λ i. dotless_first ys h i ∷ dotless_more ys h i
cut_more (b ∷ xs) ys h =
    (λ i. cond (eqb b 46) (cut_first xs ys i ∷ cut_more xs ys h i) (cut_more xs ys h i)) ∙ pushed (eqb b 46) (first_piece xs) (more_pieces xs) ys
  where
    pushed : (c : Bool) (f : List ℕ) (m : List (List ℕ)) (y : List ℕ) → cond c (f ∷ m ++ y ∷ []) (m ++ y ∷ []) ≡ cond c (f ∷ m) m ++ y ∷ []
    pushed true f m y = refl
    pushed false f m y = refl

pub labels_cut : (xs ys : List ℕ) → dotless ys ≡ true → labels_in (xs ++ 46 ∷ ys) ≡ ys ∷ labels_in xs
unfolding labels_in
labels_cut xs ys h =
    ap reverse (λ i. cut_first xs ys i ∷ cut_more xs ys h i) ∙ reverse-append (first_piece xs ∷ more_pieces xs) (ys ∷ [])

pub labels_one : (t : List ℕ) → dotless t ≡ true → labels_in t ≡ t ∷ []
unfolding labels_in
labels_one t h = ap reverse (λ i. dotless_first t h i ∷ dotless_more t h i)
