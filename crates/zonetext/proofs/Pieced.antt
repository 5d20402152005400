-- Pieces that were written as a line are read as those pieces.
use Rattle.std.proofs.Common.{◌≡◌, ℕ, suc, ◌≤◌, Bool, true, false, cond, not, ◌&&◌, eqb, ltb, leb, List, [], ◌∷◌, ◌++◌, length, take, drop, Some, None, refl, sym, ap, ◌∙◌, append_assoc, arith}
use Rattle.std.specs.List.{list_all}
use Rattle.std.specs.Option.{option_map}
use Rattle.std.proofs.lemmas.Bool.{cond-true, cond-false, and_parts, and_from, not-true, le-leb, ltb-true}
use Rattle.std.proofs.lemmas.Bool.Decides.{nat_tests}
use Rattle.std.proofs.lemmas.List.{take_at, drop_at}
use Rattle.lines.specs.Lines.{blank, run}
use Rattle.lines.proofs.Runs.{run_cons, run_stop, run_nil}
use Rattle.names.proofs.Within.{label_same}
use Rattle.zonetext.specs.Division.{Piece, Word, Text, read_from, read_part, quoted_after, in_word, in_text, may_end, Faulty, Has, closed, worded, begun, first_piece, on_first, pieces_upto, pieces_in, pieces_of}
use Rattle.zonetext.specs.Texts.{is_verb, fields, lines_of, push}
use Rattle.zonetext.specs.Written.{piece_text, pieces_text, line_text, holds_byte, holds_text}
use Rattle.zonetext.specs.TextLaws.{holds_word, holds_piece}
use Rattle.zonetext.proofs.Dividing.{pieces_step}

abbrev pub word_byte : ℕ → Bool
word_byte b = in_word b && not (eqb b 59)

-- ---- bytes

word_apart : (b : ℕ) → word_byte b ≡ true → (eqb b 59 ≡ false) × (eqb b 34 ≡ false) × (blank b ≡ false) × (eqb b 10 ≡ false)
word_apart b h = (grind (arith, nat_tests), grind (arith, nat_tests), grind (arith, nat_tests), grind (arith, nat_tests))

text_apart : (b : ℕ) → holds_byte b ≡ true → (eqb b 34 ≡ false) × (eqb b 10 ≡ false)
text_apart b h = let p = and_parts (not (eqb b 34)) (not (eqb b 10)) h in (not-true (eqb b 34) p.0, not-true (eqb b 10) p.1)

-- ---- a line is read as a whole

word_on : (b : ℕ) (bs : List ℕ) → word_byte b ≡ true → read_from false (b ∷ bs) ≡ b ∷ read_from false bs
unfolding read_from
word_on b bs h =
    let a = word_apart b h in
    cond-false (eqb b 59) [] (b ∷ read_from (quoted_after false b) bs) a.0 ∙ ap (λ q. b ∷ read_from q bs) (cond-false (eqb b 34) true false a.1)

text_on : (b : ℕ) (bs : List ℕ) → holds_byte b ≡ true → read_from true (b ∷ bs) ≡ b ∷ read_from true bs
unfolding read_from
text_on b bs h = ap (λ q. b ∷ read_from q bs) (cond-false (eqb b 34) false true (text_apart b h).0)

quote_on : (bs : List ℕ) → (read_from false (34 ∷ bs) ≡ 34 ∷ read_from true bs) × (read_from true (34 ∷ bs) ≡ 34 ∷ read_from false bs) × (read_from false (32 ∷ bs) ≡ 32 ∷ read_from false bs) × (read_from false [] ≡ [])
unfolding read_from
quote_on bs = (refl, refl, refl, refl)

word_read : (w rest : List ℕ) → list_all word_byte w ≡ true → read_from false (w ++ rest) ≡ w ++ read_from false rest
word_read [] rest h = refl
word_read (b ∷ w) rest h =
    let p = and_parts (word_byte b) (list_all word_byte w) h in
    word_on b (w ++ rest) p.0 ∙ ap (λ x. b ∷ x) (word_read w rest p.1)

text_read : (t rest : List ℕ) → holds_text t ≡ true → read_from true (t ++ 34 ∷ rest) ≡ t ++ 34 ∷ read_from false rest
text_read [] rest h = (quote_on rest).1
text_read (b ∷ t) rest h =
    let p = and_parts (holds_byte b) (holds_text t) h in
    text_on b (t ++ 34 ∷ rest) p.0 ∙ ap (λ x. b ∷ x) (text_read t rest p.1)

piece_read : (p : Piece) (rest : List ℕ) → holds_piece p ≡ true → read_from false (piece_text p ++ rest) ≡ piece_text p ++ read_from false rest
piece_read (Word w) rest h = word_read w rest (and_parts (ltb 0 (length w)) (list_all word_byte w) h).1
piece_read (Text t) rest h =
    ap (λ x. read_from false (34 ∷ x)) (append_assoc t (34 ∷ []) rest) ∙ (quote_on (t ++ 34 ∷ rest)).0 ∙ ap (λ x. 34 ∷ x) (text_read t rest h)
    ∙ ap (λ x. 34 ∷ x) (sym (append_assoc t (34 ∷ []) (read_from false rest)))

pieces_read : (ps : List Piece) → list_all holds_piece ps ≡ true → read_from false (pieces_text ps) ≡ pieces_text ps
unfolding pieces_text
pieces_read [] h = (quote_on []).3
pieces_read (p ∷ ps) h =
    let q = and_parts (holds_piece p) (list_all holds_piece ps) h in
    (quote_on (piece_text p ++ pieces_text ps)).2 ∙ ap (λ x. 32 ∷ x) (piece_read p (pieces_text ps) q.0 ∙ ap (λ x. piece_text p ++ x) (pieces_read ps q.1))

-- ---- its pieces, one by one

all_run : (test : ℕ → Bool) (w rest : List ℕ) → list_all test w ≡ true → run test rest ≡ 0 → run test (w ++ rest) ≡ length w
all_run test [] rest h e = e
all_run test (b ∷ w) rest h e =
    let p = and_parts (test b) (list_all test w) h in
    run_cons test b (w ++ rest) p.0 ∙ ap suc (all_run test w rest p.1 e)

words_in : (w : List ℕ) → list_all word_byte w ≡ true → list_all in_word w ≡ true
words_in [] h = refl
words_in (b ∷ w) h =
    let p = and_parts (word_byte b) (list_all word_byte w) h in
    and_from (in_word b) (list_all in_word w) (and_parts (in_word b) (not (eqb b 59)) p.0).0 (words_in w p.1)

texts_in : (t : List ℕ) → holds_text t ≡ true → list_all in_text t ≡ true
texts_in [] h = refl
texts_in (b ∷ t) h =
    let p = and_parts (holds_byte b) (holds_text t) h in
    and_from (in_text b) (list_all in_text t) (and_parts (not (eqb b 34)) (not (eqb b 10)) p.0).0 (texts_in t p.1)

rest_ends : (ps : List Piece) → (may_end (pieces_text ps) ≡ true) × (run in_word (pieces_text ps) ≡ 0)
unfolding pieces_text
rest_ends [] = (refl, run_nil in_word)
rest_ends (p ∷ ps) = (refl, run_stop in_word 32 (piece_text p ++ pieces_text ps) refl)

begun_word : (w rest : List ℕ) → holds_word w ≡ true → may_end rest ≡ true → run in_word rest ≡ 0 → begun (w ++ rest) ≡ Has (Word w) rest
begun_word [] rest h m e = let l = ltb-true 0 0 (and_parts (ltb 0 0) true h).0 in absurd (omega arith)
begun_word (b ∷ w) rest h m e =
    let p = and_parts (ltb 0 (length (b ∷ w))) (list_all word_byte (b ∷ w)) h in
    let a = word_apart b (and_parts (word_byte b) (list_all word_byte w) p.1).0 in
    let n = all_run in_word (b ∷ w) rest (words_in (b ∷ w) p.1) e in
    let t = (b ∷ w) ++ rest in
    cond-false (eqb b 34) (closed (take (run in_text (w ++ rest)) (w ++ rest)) (drop (run in_text (w ++ rest)) (w ++ rest))) (worded (take (run in_word t) t) (drop (run in_word t) t)) a.1
    ∙ ap (λ k. worded (take k t) (drop k t)) n
    ∙ (λ i. worded (take_at (b ∷ w) rest (length (b ∷ w)) refl i) (drop_at (b ∷ w) rest (length (b ∷ w)) refl i))
    ∙ cond-true (may_end rest) (Has (Word (b ∷ w)) rest) Faulty m

begun_text : (t rest : List ℕ) → holds_text t ≡ true → may_end rest ≡ true → begun (34 ∷ (t ++ 34 ∷ rest)) ≡ Has (Text t) rest
begun_text t rest h m =
    let n = all_run in_text t (34 ∷ rest) (texts_in t h) (run_stop in_text 34 rest refl) in
    let bs = t ++ 34 ∷ rest in
    ap (λ k. closed (take k bs) (drop k bs)) n ∙ (λ i. closed (take_at t (34 ∷ rest) (length t) refl i) (drop_at t (34 ∷ rest) (length t) refl i)) ∙ cond-true (may_end rest) (Has (Text t) rest) Faulty m

begun_piece : (p : Piece) (ps : List Piece) → holds_piece p ≡ true → begun (piece_text p ++ pieces_text ps) ≡ Has p (pieces_text ps)
begun_piece (Word w) ps h = let r = rest_ends ps in begun_word w (pieces_text ps) h r.0 r.1
begun_piece (Text t) ps h = ap (λ x. begun (34 ∷ x)) (append_assoc t (34 ∷ []) (pieces_text ps)) ∙ begun_text t (pieces_text ps) h (rest_ends ps).0

no_blank : (p : Piece) (rest : List ℕ) → holds_piece p ≡ true → run blank (piece_text p ++ rest) ≡ 0
no_blank (Word []) rest h = let l = ltb-true 0 0 (and_parts (ltb 0 0) true h).0 in absurd (omega arith)
no_blank (Word (b ∷ w)) rest h =
    let p = and_parts (ltb 0 (length (b ∷ w))) (list_all word_byte (b ∷ w)) h in
    run_stop blank b (w ++ rest) (word_apart b (and_parts (word_byte b) (list_all word_byte w) p.1).0).2
no_blank (Text t) rest h = run_stop blank 34 ((t ++ 34 ∷ []) ++ rest) refl

first_here : (p : Piece) (ps : List Piece) → holds_piece p ≡ true → first_piece (piece_text p ++ pieces_text ps) ≡ Has p (pieces_text ps)
first_here p ps h = ap (λ n. begun (drop n (piece_text p ++ pieces_text ps))) (no_blank p (pieces_text ps) h) ∙ begun_piece p ps h

first_behind : (p : Piece) (ps : List Piece) → holds_piece p ≡ true → first_piece (32 ∷ (piece_text p ++ pieces_text ps)) ≡ Has p (pieces_text ps)
first_behind p ps h =
    let t = piece_text p ++ pieces_text ps in
    ap (λ n. begun (drop n (32 ∷ t))) (run_cons blank 32 t refl ∙ ap suc (no_blank p (pieces_text ps) h)) ∙ begun_piece p ps h

pieces_back : (ps : List Piece) → list_all holds_piece ps ≡ true → pieces_in (pieces_text ps) ≡ Some ps
unfolding pieces_text pieces_upto
pieces_back [] h = refl
pieces_back (p ∷ ps) h =
    let q = and_parts (holds_piece p) (list_all holds_piece ps) h in
    pieces_step (32 ∷ (piece_text p ++ pieces_text ps)) ∙ ap (on_first pieces_in) (first_behind p ps q.0) ∙ ap (option_map (λ qs. p ∷ qs)) (pieces_back ps q.1)

pub line_back : (verb : List ℕ) (ps : List Piece) → holds_word verb ≡ true → list_all holds_piece ps ≡ true → length (line_text verb ps) ≤ 1200 → pieces_of (line_text verb ps) ≡ Some (Word verb ∷ ps)
line_back verb ps h g n =
    let t = line_text verb ps in
    let r : read_part t ≡ t = piece_read (Word verb) (pieces_text ps) h ∙ ap (λ x. verb ++ x) (pieces_read ps g) in
    ap (λ x. cond (leb (length x) 1200) (pieces_in x) None) r
    ∙ cond-true (leb (length t) 1200) (pieces_in t) None (le-leb (length t) 1200 n)
    ∙ pieces_step t ∙ ap (on_first pieces_in) (first_here (Word verb) ps h) ∙ ap (option_map (λ qs. Word verb ∷ qs)) (pieces_back ps g)

pub verb_back : (verb : List ℕ) (ps : List Piece) → fields verb (Some (Word verb ∷ ps)) ≡ Some ps
verb_back verb ps = cond-true (is_verb verb (Word verb)) (Some ps) None (label_same verb verb refl)

pub line_fields : (verb : List ℕ) (ps : List Piece) → holds_word verb ≡ true → list_all holds_piece ps ≡ true → length (line_text verb ps) ≤ 1200 → fields verb (pieces_of (line_text verb ps)) ≡ Some ps
line_fields verb ps h g n = ap (fields verb) (line_back verb ps h g n) ∙ verb_back verb ps

-- ---- no line end stands in it

abbrev pub no_end : ℕ → Bool
no_end b = not (eqb b 10)

word_ends : (w rest : List ℕ) → list_all word_byte w ≡ true → list_all no_end rest ≡ true → list_all no_end (w ++ rest) ≡ true
word_ends [] rest h e = e
word_ends (b ∷ w) rest h e =
    let p = and_parts (word_byte b) (list_all word_byte w) h in
    and_from (no_end b) (list_all no_end (w ++ rest)) (ap not (word_apart b p.0).3) (word_ends w rest p.1 e)

text_ends : (t rest : List ℕ) → holds_text t ≡ true → list_all no_end rest ≡ true → list_all no_end (t ++ rest) ≡ true
text_ends [] rest h e = e
text_ends (b ∷ t) rest h e =
    let p = and_parts (holds_byte b) (holds_text t) h in
    and_from (no_end b) (list_all no_end (t ++ rest)) (ap not (text_apart b p.0).1) (text_ends t rest p.1 e)

piece_ends : (p : Piece) (rest : List ℕ) → holds_piece p ≡ true → list_all no_end rest ≡ true → list_all no_end (piece_text p ++ rest) ≡ true
piece_ends (Word w) rest h e = word_ends w rest (and_parts (ltb 0 (length w)) (list_all word_byte w) h).1 e
piece_ends (Text t) rest h e = ap (list_all no_end) (append_assoc t (34 ∷ []) rest) ∙ text_ends t (34 ∷ rest) h e

pieces_end : (ps : List Piece) → list_all holds_piece ps ≡ true → list_all no_end (pieces_text ps) ≡ true
unfolding pieces_text
pieces_end [] h = refl
pieces_end (p ∷ ps) h =
    let q = and_parts (holds_piece p) (list_all holds_piece ps) h in
    piece_ends p (pieces_text ps) q.0 (pieces_end ps q.1)

pub line_ends : (verb : List ℕ) (ps : List Piece) → holds_word verb ≡ true → list_all holds_piece ps ≡ true → list_all no_end (line_text verb ps) ≡ true
line_ends verb ps h g = piece_ends (Word verb) (pieces_text ps) h (pieces_end ps g)

pub one_line : (l rest : List ℕ) → list_all no_end l ≡ true → lines_of (l ++ 10 ∷ rest) ≡ l ∷ lines_of rest
unfolding lines_of
one_line [] rest h = refl
one_line (b ∷ l) rest h =
    let p = and_parts (no_end b) (list_all no_end l) h in
    cond-false (eqb b 10) ([] ∷ lines_of (l ++ 10 ∷ rest)) (push b (lines_of (l ++ 10 ∷ rest))) (not-true (eqb b 10) p.0) ∙ ap (push b) (one_line l rest p.1)
