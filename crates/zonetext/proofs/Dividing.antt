-- A line read byte by byte, and divided piece by piece.
use Rattle.std.proofs.Common.{◌≡◌, ℕ, zero, suc, ◌+◌, ◌<◌, ◌≤◌, Bool, true, false, cond, not, ◌&&◌, eqb, leb, List, [], ◌∷◌, ◌++◌, length, get_or, take, drop, Some, None, Option, is_some, true≢false, refl, sym, ap, ◌∙◌, append_assoc, arith}
use Rattle.std.specs.Option.{option_map}
use Rattle.std.proofs.lemmas.List.{append-nil, at_drop_more, at_drop_all, take_more, take_all, length-take, length-drop, nil_from_length}
use Rattle.std.proofs.lemmas.Bool.{cond-true, cond-false, le-leb}
use Rattle.lines.specs.Lines.{blank, run}
use Rattle.zonetext.specs.Division.{Piece, Word, Text, read_from, read_part, quoted_after, in_word, in_text, may_end, First, Nothing, Faulty, Has, closed, worded, begun, first_piece, on_first, pieces_upto, pieces_in, pieces_of}
use Rattle.lines.proofs.Runs.{run_nil}
use Rattle.memchr.specs.Find.{IsFirstByte, is_byte}

-- ---- what is read

read_on : (q : Bool) (b : ℕ) (bs : List ℕ) → (not q && eqb b 59) ≡ false → read_from q (b ∷ bs) ≡ b ∷ read_from (quoted_after q b) bs
unfolding read_from
read_on q b bs h = cond-false (not q && eqb b 59) [] (b ∷ read_from (quoted_after q b) bs) h

read_stop : (q : Bool) (b : ℕ) (bs : List ℕ) → (not q && eqb b 59) ≡ true → read_from q (b ∷ bs) ≡ []
unfolding read_from
read_stop q b bs h = cond-true (not q && eqb b 59) [] (b ∷ read_from (quoted_after q b) bs) h

read_nil : (q : Bool) → read_from q [] ≡ []
unfolding read_from
read_nil q = refl

-- without a semicolon all is read
read_plain : (q : Bool) (bs : List ℕ) → ((k : ℕ) → k < length bs → eqb (get_or bs k 0) 59 ≡ true → ⊥) → read_from q bs ≡ bs
read_plain q [] h = read_nil q
read_plain q (b ∷ bs) h = read_on q b bs (no_stop (not q) (eqb b 59) (λ e. h 0 (omega arith) e)) ∙ ap (λ x. b ∷ x) (read_plain (quoted_after q b) bs (λ k l e. h (suc k) (omega arith) e))
  where
    no_stop : (x y : Bool) → (y ≡ true → ⊥) → (x && y) ≡ false
    no_stop x true e = absurd (e refl)
    no_stop true false e = refl
    no_stop false false e = refl

pub plain_line : (line : List ℕ) (r : Option ℕ) → is_some r ≡ false → IsFirstByte (is_byte 59) line r → line ≡ read_part line
plain_line line None e h = sym (read_plain false line (λ k l t. h k (omega arith) l t))
plain_line line (Some k) e h = absurd (true≢false e)

module _ (line : List ℕ) where
  -- so far all is read
  pub record Reading (quoted : Bool) (i : ℕ) : Type 0 where
    pub so_far : read_part line ≡ take i line ++ read_from quoted (drop i line)

  pub none_read : Reading false 0
  none_read = record { so_far = refl }

  pub one_read : (q : Bool) (i b : ℕ) → Reading q i → i < length line → b ≡ get_or line i 0 → (not q && eqb b 59) ≡ false → Reading (quoted_after q b) (i + 1)
  one_read q i b r l e h =
      let rest = read_from (quoted_after q b) (drop (i + 1) line) in
      let one : read_from q (drop i line) ≡ b ∷ rest = at_drop_more (read_from q) line i 0 l ∙ ap (λ x. read_from q (x ∷ drop (i + 1) line)) (sym e) ∙ read_on q b (drop (i + 1) line) h in
      let front : take i line ++ b ∷ [] ≡ take (i + 1) line = ap (λ x. take i line ++ x ∷ []) e ∙ sym (take_more line i 0 l) in
      record { so_far = r.so_far ∙ ap (λ x. take i line ++ x) one ∙ sym (append_assoc (take i line) (b ∷ []) rest) ∙ ap (λ x. x ++ rest) front }

  pub stopped : (q : Bool) (i b : ℕ) → Reading q i → i < length line → b ≡ get_or line i 0 → (not q && eqb b 59) ≡ true → read_part line ≡ take i line
  stopped q i b r l e h =
      r.so_far ∙ ap (λ x. take i line ++ x) (at_drop_more (read_from q) line i 0 l ∙ ap (λ x. read_from q (x ∷ drop (i + 1) line)) (sym e) ∙ read_stop q b (drop (i + 1) line) h) ∙ append-nil (take i line)

  pub all_read : (q : Bool) (i : ℕ) → Reading q i → length line ≤ i → read_part line ≡ line
  all_read q i r l =
      r.so_far ∙ ap (λ x. take i line ++ x) (at_drop_all (read_from q) line i l ∙ read_nil q) ∙ append-nil (take i line) ∙ take_all i line l

-- ---- a piece takes a byte at least

closed_shorter : (t d : List ℕ) (p : Piece) (rest : List ℕ) → closed t d ≡ Has p rest → length rest < length d
closed_shorter t [] p rest h = cc
closed_shorter t (q ∷ d) p rest h = go (may_end d) h
  where
    go : (c : Bool) → cond c (Has (Text t) d) Faulty ≡ Has p rest → length rest < suc (length d)
    go true e = let s : d ≡ rest = cc in let n = ap length s in omega arith
    go false e = cc

worded_shorter : (w d : List ℕ) (p : Piece) (rest : List ℕ) → worded w d ≡ Has p rest → (0 < length w) × (length rest ≡ length d)
worded_shorter [] d p rest h = cc
worded_shorter (b ∷ w) d p rest h = go (may_end d) h
  where
    go : (c : Bool) → cond c (Has (Word (b ∷ w)) d) Faulty ≡ Has p rest → (0 < suc (length w)) × (length rest ≡ length d)
    go true e = let s : rest ≡ d = cc in (omega arith, ap length s)
    go false e = cc

begun_shorter : (u : List ℕ) (p : Piece) (rest : List ℕ) → begun u ≡ Has p rest → length rest < length u
begun_shorter [] p rest h = cc
begun_shorter (b ∷ bs) p rest h = go (eqb b 34) h
  where
    go : (c : Bool) → cond c (closed (take (run in_text bs) bs) (drop (run in_text bs) bs)) (worded (take (run in_word (b ∷ bs)) (b ∷ bs)) (drop (run in_word (b ∷ bs)) (b ∷ bs))) ≡ Has p rest → length rest < suc (length bs)
    go true e =
        let s = closed_shorter (take (run in_text bs) bs) (drop (run in_text bs) bs) p rest e in
        let d = length-drop (run in_text bs) bs in
        omega arith
    go false e =
        let s = worded_shorter (take (run in_word (b ∷ bs)) (b ∷ bs)) (drop (run in_word (b ∷ bs)) (b ∷ bs)) p rest e in
        let d = length-drop (run in_word (b ∷ bs)) (b ∷ bs) in
        let t = length-take (run in_word (b ∷ bs)) (b ∷ bs) in
        omega arith

pub shorter : (r : List ℕ) (p : Piece) (rest : List ℕ) → first_piece r ≡ Has p rest → length rest < length r
shorter r p rest h =
    let s = begun_shorter (drop (run blank r) r) p rest h in
    let d = length-drop (run blank r) r in
    omega arith

-- ---- all pieces, the first one first

no_piece : first_piece [] ≡ Nothing
no_piece = ap (λ n. begun (drop n [])) (run_nil blank)

upto_zero : (r : List ℕ) → pieces_upto 0 r ≡ Some []
unfolding pieces_upto
upto_zero r = refl

upto_suc : (n : ℕ) (r : List ℕ) → pieces_upto (suc n) r ≡ on_first (λ rest. pieces_upto n rest) (first_piece r)
unfolding pieces_upto
upto_suc n r = refl

upto_nil : (n : ℕ) → pieces_upto n [] ≡ Some []
upto_nil zero = upto_zero []
upto_nil (suc n) = upto_suc n [] ∙ ap (on_first (λ rest. pieces_upto n rest)) no_piece

-- more than the bytes that are there changes nothing
enough : (n m : ℕ) (r : List ℕ) → length r ≤ n → length r ≤ m → pieces_upto n r ≡ pieces_upto m r
enough zero m r h k = ap (pieces_upto 0) (nil_from_length r (omega arith)) ∙ upto_zero [] ∙ sym (upto_nil m) ∙ ap (pieces_upto m) (sym (nil_from_length r (omega arith)))
enough (suc n) zero r h k = ap (pieces_upto (suc n)) (nil_from_length r (omega arith)) ∙ upto_nil (suc n) ∙ sym (upto_zero r)
enough (suc n) (suc m) r h k = upto_suc n r ∙ go (first_piece r) refl (λ rest. enough n m rest) ∙ sym (upto_suc m r)
  where
    go : (f : First) → first_piece r ≡ f → ((rest : List ℕ) → length rest ≤ n → length rest ≤ m → pieces_upto n rest ≡ pieces_upto m rest) → on_first (λ rest. pieces_upto n rest) f ≡ on_first (λ rest. pieces_upto m rest) f
    go Nothing e ih = refl
    go Faulty e ih = refl
    go (Has p rest) e ih = let s = shorter r p rest e in ap (option_map (λ ps. p ∷ ps)) (ih rest (omega arith) (omega arith))

pub pieces_step : (r : List ℕ) → pieces_in r ≡ on_first pieces_in (first_piece r)
pieces_step r = enough (length r) (suc (length r)) r (omega arith) (omega arith) ∙ upto_suc (length r) r ∙ go (first_piece r) refl
  where
    go : (f : First) → first_piece r ≡ f → on_first (λ rest. pieces_upto (length r) rest) f ≡ on_first pieces_in f
    go Nothing e = refl
    go Faulty e = refl
    go (Has p rest) e = let s = shorter r p rest e in ap (option_map (λ ps. p ∷ ps)) (enough (length r) (length rest) rest (omega arith) (omega arith))

module _ (whole : List ℕ) where
  -- the pieces so far, and those of the rest
  pub record Dividing (ps : List Piece) (rest : List ℕ) : Type 0 where
    pub so_far : pieces_in whole ≡ option_map (λ qs. ps ++ qs) (pieces_in rest)

  pub none_cut : Dividing [] whole
  none_cut = record { so_far = go (pieces_in whole) }
    where
      go : (o : Option (List Piece)) → o ≡ option_map (λ qs. [] ++ qs) o
      go None = refl
      go (Some qs) = refl

  pub one_cut : (ps : List Piece) (rest : List ℕ) (p : Piece) (after : List ℕ) → Dividing ps rest → first_piece rest ≡ Has p after → Dividing (ps ++ p ∷ []) after
  one_cut ps rest p after d h = record { so_far = d.so_far ∙ ap (option_map (λ qs. ps ++ qs)) (pieces_step rest ∙ ap (on_first pieces_in) h) ∙ go (pieces_in after) }
    where
      go : (o : Option (List Piece)) → option_map (λ qs. ps ++ qs) (option_map (λ qs. p ∷ qs) o) ≡ option_map (λ qs. (ps ++ p ∷ []) ++ qs) o
      go None = refl
      go (Some qs) = ap Some (sym (append_assoc ps (p ∷ []) qs))

  pub all_cut : (ps : List Piece) (rest : List ℕ) → Dividing ps rest → first_piece rest ≡ Nothing → pieces_in whole ≡ Some ps
  all_cut ps rest d h = d.so_far ∙ ap (option_map (λ qs. ps ++ qs)) (pieces_step rest ∙ ap (on_first pieces_in) h) ∙ ap Some (append-nil ps)

  pub bad_cut : (ps : List Piece) (rest : List ℕ) → Dividing ps rest → first_piece rest ≡ Faulty → pieces_in whole ≡ None
  bad_cut ps rest d h = d.so_far ∙ ap (option_map (λ qs. ps ++ qs)) (pieces_step rest ∙ ap (on_first pieces_in) h)

-- a line that isn't too long
pub within_line : (line r : List ℕ) (o : Option (List Piece)) → r ≡ read_part line → length r ≤ 1200 → pieces_in (read_part line) ≡ o → pieces_of line ≡ o
within_line line r o h n e =
    let l = ap length h in
    cond-true (leb (length (read_part line)) 1200) (pieces_in (read_part line)) None (le-leb (length (read_part line)) 1200 (omega arith)) ∙ e
