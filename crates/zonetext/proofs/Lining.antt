-- Lines, one after the other.
use Rattle.std.proofs.Common.{◌≡◌, ℕ, suc, ◌+◌, ◌<◌, Bool, true, false, not, eqb, List, [], ◌∷◌, length, take, drop, min, Some, None, Ok, Err, Result, MatchResult, subst, sym, refl, ap, ◌∙◌, arith}
use Rattle.std.proofs.lemmas.Bool.{cond-true, cond-false}
use Rattle.std.proofs.lemmas.List.{drop-drop}
use Rattle.lines.specs.Lines.{run}
use Rattle.lines.proofs.Runs.{run_cons, run_stop, run_nil}
use Rattle.zonetext.specs.Division.{Piece, pieces_of}
use Rattle.zonetext.specs.Texts.{push, lines_of, unless_blank, numbered}

abbrev pub is_end : ℕ → Bool
is_end b = eqb b 10

abbrev pub no_end : ℕ → Bool
no_end b = not (is_end b)

pub no_lines : (t : List ℕ) → length t ≡ 0 → lines_of t ≡ []
unfolding lines_of
no_lines [] e = refl
no_lines (b ∷ bs) e = absurd (omega arith)

-- the line of a first byte, if that of those behind it is known
abbrev Cut : ℕ → List ℕ → Type 0
Cut b bs = push b (lines_of bs) ≡ (b ∷ take (run no_end bs) bs) ∷ lines_of (drop (suc (run no_end bs)) bs)

abbrev FirstIs : List ℕ → Type 0
FirstIs t = lines_of t ≡ take (run no_end t) t ∷ lines_of (drop (suc (run no_end t)) t)

by_byte : (b : ℕ) (bs : List ℕ) (c : Bool) → is_end b ≡ c → Cut b bs → FirstIs (b ∷ bs)
unfolding lines_of
by_byte b bs true e h =
    cond-true (is_end b) ([] ∷ lines_of bs) (push b (lines_of bs)) e
    ∙ sym (ap (λ n. take n (b ∷ bs) ∷ lines_of (drop (suc n) (b ∷ bs))) (run_stop no_end b bs (ap not e)))
by_byte b bs false e h =
    cond-false (is_end b) ([] ∷ lines_of bs) (push b (lines_of bs)) e ∙ h
    ∙ sym (ap (λ n. take n (b ∷ bs) ∷ lines_of (drop (suc n) (b ∷ bs))) (run_cons no_end b bs (ap not e)))

cut_last : (b : ℕ) → Cut b []
unfolding lines_of
cut_last b = ap (λ n. (b ∷ take n []) ∷ []) (sym (run_nil no_end))

first_of : (b : ℕ) (bs : List ℕ) → FirstIs (b ∷ bs)
first_of b [] = by_byte b [] (is_end b) refl (cut_last b)
first_of b (x ∷ xs) = by_byte b (x ∷ xs) (is_end b) refl (ap (push b) (first_of x xs))

-- the first line is what stands before the first line end, and the others are those behind it
first_line : (t : List ℕ) → 0 < length t → FirstIs t
first_line [] l = absurd (omega arith)
first_line (b ∷ bs) l = first_of b bs

past_end : (xs : List ℕ) (m : ℕ) → m ≡ min (length xs) 1 → drop m xs ≡ drop 1 xs
past_end [] m e = let l : m ≡ 0 = e in ap (λ k. drop k []) l
past_end (x ∷ xs) m e = let l : m ≡ 1 = omega arith in ap (λ k. drop k (x ∷ xs)) l

pub next_is : (t line behind rest : List ℕ) (n m : ℕ) → 0 < length t → n ≡ run no_end t → line ≡ take n t → behind ≡ drop n t → m ≡ min (length behind) 1 → rest ≡ drop m behind → lines_of t ≡ line ∷ lines_of rest
next_is t line behind rest n m l e front back step e2 =
    first_line t l
    ∙ (λ i. take (sym e i) t ∷ lines_of (drop (suc (sym e i)) t))
    ∙ (λ i. sym front i ∷ lines_of (sym there i))
  where
    there : rest ≡ drop (suc n) t
    there = e2 ∙ past_end behind m step ∙ ap (drop 1) back ∙ (drop-drop 1 n t ∙ (λ i. drop (let q : n + 1 ≡ suc n = omega arith in q i) t))

-- ---- a line by its number, and those behind it

module _ (xs ys : List (List ℕ)) (n m k : ℕ) (l : List ℕ) (cut : xs ≡ l ∷ ys) (next : m ≡ suc n) (here : k ≡ n) where
  by_pieces : numbered n xs ≡ unless_blank k (pieces_of l) (numbered m ys)
  unfolding numbered
  by_pieces = ap (numbered n) cut ∙ (λ i. unless_blank (sym here i) (pieces_of l) (numbered (sym next i) ys))

  pub passed_over : pieces_of l ≡ Some [] → numbered m ys ≡ numbered n xs
  passed_over e = sym (by_pieces ∙ ap (λ o. unless_blank k o (numbered m ys)) e)

  said_some : (ps : List Piece) → 0 < length ps → unless_blank k (Some ps) (numbered m ys) ≡ record { number = k; pieces = Some ps } ∷ numbered m ys
  said_some [] h = absurd (omega arith)
  said_some (p ∷ ps) h = refl

  pub said_here : (ps : List Piece) → pieces_of l ≡ Some ps → 0 < length ps → numbered n xs ≡ record { number = k; pieces = Some ps } ∷ numbered m ys
  said_here ps e h = by_pieces ∙ ap (λ o. unless_blank k o (numbered m ys)) e ∙ said_some ps h

  pub faulty_here : pieces_of l ≡ None → numbered n xs ≡ record { number = k; pieces = None } ∷ numbered m ys
  faulty_here e = by_pieces ∙ ap (λ o. unless_blank k o (numbered m ys)) e

  pub end_same : m + length ys ≡ n + length xs
  end_same = let e = ap length cut in omega arith

pub none_left : (xs : List (List ℕ)) (n : ℕ) → xs ≡ [] → (numbered n xs ≡ []) × (n ≡ n + length xs)
unfolding numbered
none_left xs n e = (ap (numbered n) e, let l = ap length e in omega arith)

-- ---- what a result that was handed on says

pub of_ok : {T E : Type 0} (r : Result T E) (x : T) (P : T → Type 0) (Q : E → Type 0) → r ≡ Ok x → MatchResult r P Q → P x
of_ok r x P Q e m = subst (λ s. MatchResult s P Q) e m

pub of_err : {T E : Type 0} (r : Result T E) (f : E) (P : T → Type 0) (Q : E → Type 0) → r ≡ Err f → MatchResult r P Q → Q f
of_err r f P Q e m = subst (λ s. MatchResult s P Q) e m
