-- The pieces that a line has, and how long they are together.
use Rattle.std.proofs.Common.{◌≡◌, ℕ, zero, suc, ◌+◌, ◌<◌, ◌≤◌, Bool, true, false, cond, not, ◌&&◌, eqb, ltb, leb, List, [], ◌∷◌, length, take, drop, Some, None, Option, refl, ap, ◌∙◌, subst, arith, length-append}
use Rattle.std.specs.List.{list_all}
use Rattle.std.specs.Option.{option_map}
use Rattle.std.proofs.lemmas.Bool.{and_parts, and_from, ltb-true, leb-true, lt-ltb, le-leb}
use Rattle.std.proofs.lemmas.List.{length-take, length-drop}
use Rattle.lines.specs.Lines.{blank, run}
use Rattle.lines.proofs.Runs.{run_cons, run_stop, run_nil}
use Rattle.zonetext.specs.Division.{Piece, Word, Text, read_from, read_part, quoted_after, in_word, in_text, may_end, First, Nothing, Faulty, Has, closed, worded, begun, first_piece, on_first, pieces_upto, pieces_in, pieces_of}
use Rattle.zonetext.specs.Written.{piece_text, pieces_text, holds_byte, holds_text}
use Rattle.zonetext.proofs.Pieced.{no_end}

-- ---- the pieces of a line

-- a piece as a line has it
abbrev pub taken : Piece → Bool
taken (Word w) = ltb 0 (length w)
taken (Text t) = holds_text t

there : (p : Piece) → taken p ≡ true → 0 < length (piece_text p)
there (Word w) h = ltb-true 0 (length w) h
there (Text t) h = omega arith

all_taken : (test : ℕ → Bool) (n : ℕ) (xs : List ℕ) → list_all test xs ≡ true → (list_all test (take n xs) ≡ true) × (list_all test (drop n xs) ≡ true)
all_taken test zero xs h = (refl, h)
all_taken test (suc n) [] h = (refl, refl)
all_taken test (suc n) (x ∷ xs) h =
    let p = and_parts (test x) (list_all test xs) h in
    let q = all_taken test n xs p.1 in
    (and_from (test x) (list_all test (take n xs)) p.0 q.0, q.1)

run_passes : (test : ℕ → Bool) (xs : List ℕ) → list_all test (take (run test xs) xs) ≡ true
run_passes test [] = ap (λ n. list_all test (take n [])) (run_nil test)
run_passes test (x ∷ xs) = go (test x) refl (run_passes test xs)
  where
    go : (c : Bool) → test x ≡ c → list_all test (take (run test xs) xs) ≡ true → list_all test (take (run test (x ∷ xs)) (x ∷ xs)) ≡ true
    go true e h = ap (λ n. list_all test (take n (x ∷ xs))) (run_cons test x xs e) ∙ and_from (test x) (list_all test (take (run test xs) xs)) e h
    go false e h = ap (λ n. list_all test (take n (x ∷ xs))) (run_stop test x xs e)

text_held : (t : List ℕ) → list_all in_text t ≡ true → list_all no_end t ≡ true → holds_text t ≡ true
text_held [] h g = refl
text_held (b ∷ t) h g =
    let p = and_parts (in_text b) (list_all in_text t) h in
    let q = and_parts (no_end b) (list_all no_end t) g in
    and_from (holds_byte b) (holds_text t) (and_from (in_text b) (no_end b) p.0 q.0) (text_held t p.1 q.1)

-- a piece that was cut off, and what is left behind it
record Cut (u : List ℕ) (p : Piece) (rest : List ℕ) : Type 0 where
  good : taken p ≡ true
  clean : list_all no_end rest ≡ true
  ends : may_end rest ≡ true
  room : length (piece_text p) + length rest ≤ length u

closed_cut : (u t d : List ℕ) (p : Piece) (rest : List ℕ) → holds_text t ≡ true → list_all no_end d ≡ true → length t + length d + 1 ≡ length u → closed t d ≡ Has p rest → Cut u p rest
closed_cut u t [] p rest h g n e = cc
closed_cut u t (q ∷ d) p rest h g n e = go (may_end d) refl e
  where
    go : (c : Bool) → may_end d ≡ c → cond c (Has (Text t) d) Faulty ≡ Has p rest → Cut u p rest
    go true m f =
        let a : Text t ≡ p = cc in
        let b : d ≡ rest = cc in
        let l = length-append t (34 ∷ []) in
        let k : length (piece_text (Text t)) + length d ≤ length u = omega arith in
        subst (λ x. Cut u x rest) a (subst (λ x. Cut u (Text t) x) b (record { good = h; clean = (and_parts (no_end q) (list_all no_end d) g).1; ends = m; room = k }))
    go false m f = cc

worded_cut : (u w d : List ℕ) (p : Piece) (rest : List ℕ) → list_all no_end d ≡ true → length w + length d ≡ length u → worded w d ≡ Has p rest → Cut u p rest
worded_cut u [] d p rest g n e = cc
worded_cut u (b ∷ w) d p rest g n e = go (may_end d) refl e
  where
    go : (c : Bool) → may_end d ≡ c → cond c (Has (Word (b ∷ w)) d) Faulty ≡ Has p rest → Cut u p rest
    go true m f =
        let a : Word (b ∷ w) ≡ p = cc in
        let x : d ≡ rest = cc in
        let k : length (piece_text (Word (b ∷ w))) + length d ≤ length u = omega arith in
        subst (λ y. Cut u y rest) a (subst (λ y. Cut u (Word (b ∷ w)) y) x (record { good = lt-ltb 0 (length (b ∷ w)) (omega arith); clean = g; ends = m; room = k }))
    go false m f = cc

begun_cut : (u : List ℕ) (p : Piece) (rest : List ℕ) → list_all no_end u ≡ true → begun u ≡ Has p rest → Cut u p rest
begun_cut [] p rest g e = cc
begun_cut (b ∷ bs) p rest g e = go (eqb b 34) e
  where
    go : (c : Bool) → cond c (closed (take (run in_text bs) bs) (drop (run in_text bs) bs)) (worded (take (run in_word (b ∷ bs)) (b ∷ bs)) (drop (run in_word (b ∷ bs)) (b ∷ bs))) ≡ Has p rest → Cut (b ∷ bs) p rest
    go true f =
        let n = run in_text bs in
        let a = all_taken no_end n bs (and_parts (no_end b) (list_all no_end bs) g).1 in
        let l = length-take n bs in
        let k = length-drop n bs in
        closed_cut (b ∷ bs) (take n bs) (drop n bs) p rest (text_held (take n bs) (run_passes in_text bs) a.0) a.1 (omega arith) f
    go false f =
        let n = run in_word (b ∷ bs) in
        let a = all_taken no_end n (b ∷ bs) g in
        let l = length-take n (b ∷ bs) in
        let k = length-drop n (b ∷ bs) in
        worded_cut (b ∷ bs) (take n (b ∷ bs)) (drop n (b ∷ bs)) p rest a.1 (omega arith) f

first_cut : (r : List ℕ) (p : Piece) (rest : List ℕ) → list_all no_end r ≡ true → first_piece r ≡ Has p rest → Cut (drop (run blank r) r) p rest
first_cut r p rest g e = begun_cut (drop (run blank r) r) p rest (all_taken no_end (run blank r) r g).1 e

-- the pieces that are left: behind a blank, or from the line's begin
record Pieces (r : List ℕ) (ps : List Piece) : Type 0 where
  good : list_all taken ps ≡ true
  behind : may_end r ≡ true → length (pieces_text ps) ≤ length r
  begin : length (pieces_text ps) ≤ length r + 1

no_pieces : (r : List ℕ) → Pieces r []
unfolding pieces_text
no_pieces r = record { good = refl; behind = λ m. omega arith; begin = omega arith }

pub length_more : (p : Piece) (ps : List Piece) → length (pieces_text (p ∷ ps)) ≡ 1 + length (piece_text p) + length (pieces_text ps)
unfolding pieces_text
length_more p ps = let a = length-append (piece_text p) (pieces_text ps) in omega arith

one_piece_more : (r rest : List ℕ) (p : Piece) (ps : List Piece) → Cut (drop (run blank r) r) p rest → Pieces rest ps → Pieces r (p ∷ ps)
one_piece_more r rest p ps c q =
    let l = length_more p ps in
    let d = length-drop (run blank r) r in
    let t = there p c.good in
    let n = q.behind c.ends in
    let m = c.room in
    record {
      good = and_from (taken p) (list_all taken ps) c.good q.good;
      behind = λ e. let b = blank_there r e (omega arith) in omega arith;
      begin = omega arith;
    }
  where
    blank_there : (x : List ℕ) → may_end x ≡ true → 0 < length x → 0 < run blank x
    blank_there [] e k = omega arith
    blank_there (b ∷ bs) e k = let z = run_cons blank b bs e in omega arith

pieces_taken : (n : ℕ) (r : List ℕ) (ps : List Piece) → list_all no_end r ≡ true → pieces_upto n r ≡ Some ps → Pieces r ps
unfolding pieces_upto
pieces_taken zero r ps g e = let a : [] ≡ ps = cc in subst (Pieces r) a (no_pieces r)
pieces_taken (suc n) r ps g e = go (first_piece r) refl e (λ rest qs. pieces_taken n rest qs)
  where
    more : (p : Piece) (rest : List ℕ) → Cut (drop (run blank r) r) p rest → (o : Option (List Piece)) → option_map (λ qs. p ∷ qs) o ≡ Some ps → ((qs : List Piece) → o ≡ Some qs → Pieces rest qs) → Pieces r ps
    more p rest c None h ih = cc
    more p rest c (Some qs) h ih = let a : (p ∷ qs) ≡ ps = cc in subst (Pieces r) a (one_piece_more r rest p qs c (ih qs refl))

    go : (f : First) → first_piece r ≡ f → on_first (λ rest. pieces_upto n rest) f ≡ Some ps → ((rest : List ℕ) (qs : List Piece) → list_all no_end rest ≡ true → pieces_upto n rest ≡ Some qs → Pieces rest qs) → Pieces r ps
    go Nothing f h ih = let a : [] ≡ ps = cc in subst (Pieces r) a (no_pieces r)
    go Faulty f h ih = cc
    go (Has p rest) f h ih = let c = first_cut r p rest g f in more p rest c (pieces_upto n rest) h (λ qs k. ih rest qs c.clean k)

read_clean : (q : Bool) (l : List ℕ) → list_all no_end l ≡ true → list_all no_end (read_from q l) ≡ true
unfolding read_from
read_clean q [] h = refl
read_clean q (b ∷ l) h =
    let p = and_parts (no_end b) (list_all no_end l) h in
    go (not q && eqb b 59) p.0 (read_clean (quoted_after q b) l p.1)
  where
    go : (c : Bool) → no_end b ≡ true → list_all no_end (read_from (quoted_after q b) l) ≡ true → list_all no_end (cond c [] (b ∷ read_from (quoted_after q b) l)) ≡ true
    go true e ih = refl
    go false e ih = and_from (no_end b) (list_all no_end (read_from (quoted_after q b) l)) e ih

-- a line's pieces, each as a line has it, and all of them within its room
abbrev pub on_a_line : List Piece → Bool
on_a_line ps = list_all taken ps && leb (length (pieces_text ps)) 1201

pub line_taken : (l : List ℕ) (ps : List Piece) → list_all no_end l ≡ true → pieces_of l ≡ Some ps → on_a_line ps ≡ true
line_taken l ps g e = go (leb (length (read_part l)) 1200) refl e
  where
    go : (c : Bool) → leb (length (read_part l)) 1200 ≡ c → cond c (pieces_in (read_part l)) None ≡ Some ps → on_a_line ps ≡ true
    go true m f =
        let n = leb-true (length (read_part l)) 1200 m in
        let q = pieces_taken (length (read_part l)) (read_part l) ps (read_clean false l g) f in
        let b = q.begin in
        and_from (list_all taken ps) (leb (length (pieces_text ps)) 1201) q.good (le-leb (length (pieces_text ps)) 1201 (omega arith))
    go false m f = cc
