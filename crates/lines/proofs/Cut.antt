-- The words of a line, cut off one by one.
use Rattle.std.proofs.Common.{◌≡◌, ℕ, zero, suc, ◌+◌, ◌<◌, ◌≤◌, Bool, true, false, not, ◌&&◌, ltb, List, [], ◌∷◌, ◌++◌, length, take, drop, sym, refl, ap, ◌∙◌, arith}
use Rattle.std.proofs.lemmas.List.{take_at, drop_at, take-append-le, take_all, drop_all, append-nil, length-append, length-drop}
use Rattle.std.proofs.lemmas.Bool.{cond-true, cond-false, and_parts, ltb-true, not_from_false, not_from_true}
use Rattle.lines.specs.Lines.{blank, in_word, run, readable, read_part, goes_on, before, words, plain, field, fields, line_of, LineLaws}
use Rattle.lines.proofs.Runs.{run_cons, run_stop, run_nil, run_after, run_append, run_within}

words_blank : (b : ℕ) (bs : List ℕ) → blank b ≡ true → words (b ∷ bs) ≡ words bs
unfolding words
words_blank b bs h = cond-true (blank b) (words bs) (before b (goes_on bs) (words bs)) h

words_start : (b : ℕ) (bs : List ℕ) → blank b ≡ false → words (b ∷ bs) ≡ before b (goes_on bs) (words bs)
unfolding words
words_start b bs h = cond-false (blank b) (words bs) (before b (goes_on bs) (words bs)) h

words_nil : words [] ≡ []
unfolding words
words_nil = refl

-- blanks at the front don't count
pub skip_blanks : (t : List ℕ) → words t ≡ words (drop (run blank t) t)
skip_blanks [] = ap (λ n. words (drop n [])) (sym (run_nil blank))
skip_blanks (b ∷ t) = go (blank b) refl (skip_blanks t)
  where
    go : (c : Bool) → blank b ≡ c → words t ≡ words (drop (run blank t) t) → words (b ∷ t) ≡ words (drop (run blank (b ∷ t)) (b ∷ t))
    go true e ih = words_blank b t e ∙ ih ∙ ap (λ n. words (drop n (b ∷ t))) (sym (run_cons blank b t e))
    go false e ih = ap (λ n. words (drop n (b ∷ t))) (sym (run_stop blank b t e))

-- a word at the front
cut_at : (t : List ℕ) (n : ℕ) → run in_word t ≡ suc n → words t ≡ take (suc n) t ∷ words (drop (suc n) t)
cut_at [] n h = let z = run_nil in_word in absurd (omega arith)
cut_at (b ∷ []) n h = go (blank b) refl
  where
    go : (c : Bool) → blank b ≡ c → words (b ∷ []) ≡ take (suc n) (b ∷ []) ∷ words (drop (suc n) (b ∷ []))
    go true e = let z = run_stop in_word b [] (not_from_true (blank b) e) in absurd (omega arith)
    go false e =
        let z = run_cons in_word b [] (not_from_false (blank b) e) in
        let y = run_nil in_word in
        let k : 0 ≡ n = omega arith in
        words_start b [] e ∙ ap (λ ws. (b ∷ []) ∷ ws) words_nil ∙ ap (λ ws. (b ∷ []) ∷ ws) (sym words_nil) ∙ ap (λ m. take (suc m) (b ∷ []) ∷ words (drop (suc m) (b ∷ []))) k
cut_at (b ∷ c ∷ t) n h = go (blank b) (blank c) refl refl (cut_at (c ∷ t))
  where
    go : (p q : Bool) → blank b ≡ p → blank c ≡ q → ((m : ℕ) → run in_word (c ∷ t) ≡ suc m → words (c ∷ t) ≡ take (suc m) (c ∷ t) ∷ words (drop (suc m) (c ∷ t))) → words (b ∷ c ∷ t) ≡ take (suc n) (b ∷ c ∷ t) ∷ words (drop (suc n) (b ∷ c ∷ t))
    go true q e f ih = let z = run_stop in_word b (c ∷ t) (not_from_true (blank b) e) in absurd (omega arith)
    go false true e f ih =
        let z = run_cons in_word b (c ∷ t) (not_from_false (blank b) e) in
        let y = run_stop in_word c t (not_from_true (blank c) f) in
        let k : 0 ≡ n = omega arith in
        words_start b (c ∷ t) e ∙ ap (λ g. before b g (words (c ∷ t))) (not_from_true (blank c) f) ∙ ap (λ m. take (suc m) (b ∷ c ∷ t) ∷ words (drop (suc m) (b ∷ c ∷ t))) k
    go false false e f ih =
        let z = run_cons in_word b (c ∷ t) (not_from_false (blank b) e) in
        let y = run_cons in_word c t (not_from_false (blank c) f) in
        let k : suc (run in_word t) ≡ n = omega arith in
        words_start b (c ∷ t) e ∙ ap (λ g. before b g (words (c ∷ t))) (not_from_false (blank c) f) ∙ ap (before b true) (ih (run in_word t) y)
        ∙ ap (λ m. take (suc m) (b ∷ c ∷ t) ∷ words (drop (suc m) (b ∷ c ∷ t))) k

pub cut_word : (t : List ℕ) → 0 < run in_word t → words t ≡ take (run in_word t) t ∷ words (drop (run in_word t) t)
cut_word t h = go (run in_word t) refl h
  where
    go : (n : ℕ) → run in_word t ≡ n → 0 < n → words t ≡ take (run in_word t) t ∷ words (drop (run in_word t) t)
    go zero e l = absurd (omega arith)
    go (suc n) e l = cut_at t n e ∙ ap (λ m. take m t ∷ words (drop m t)) (sym e)

-- where no blank stands, a word does
word_there : (t : List ℕ) → run blank t ≡ 0 → 0 < length t → 0 < run in_word t
word_there [] h k = omega arith
word_there (b ∷ t) h k = go (blank b) refl
  where
    go : (c : Bool) → blank b ≡ c → 0 < run in_word (b ∷ t)
    go true e = let z = run_cons blank b t e in omega arith
    go false e = let z = run_cons in_word b t (not_from_false (blank b) e) in omega arith

-- ---- the laws

all_word : (w : List ℕ) → plain w ≡ true → run in_word w ≡ length w
all_word [] h = run_nil in_word
all_word (b ∷ w) h =
    let p = and_parts (in_word b && readable b) (plain w) h in
    run_cons in_word b w (and_parts (in_word b) (readable b) p.0).0 ∙ ap suc (all_word w p.1)

one_more : (w rest : List ℕ) → field w ≡ true → words (w ++ 32 ∷ rest) ≡ w ∷ words rest
one_more w rest h =
    let p = and_parts (ltb 0 (length w)) (plain w) h in
    let n = ltb-true 0 (length w) p.0 in
    let r : run in_word (w ++ 32 ∷ rest) ≡ length w = run_append in_word w (32 ∷ rest) (run_stop in_word 32 rest refl) ∙ all_word w p.1 in
    cut_word (w ++ 32 ∷ rest) (omega arith) ∙ ap (λ m. take m (w ++ 32 ∷ rest) ∷ words (drop m (w ++ 32 ∷ rest))) r
    ∙ (λ i. take_at w (32 ∷ rest) (length w) refl i ∷ words (drop_at w (32 ∷ rest) (length w) refl i)) ∙ ap (λ ws. w ∷ ws) (words_blank 32 rest refl)

alone : (w : List ℕ) → field w ≡ true → words w ≡ w ∷ []
alone w h =
    let p = and_parts (ltb 0 (length w)) (plain w) h in
    let n = ltb-true 0 (length w) p.0 in
    let r = all_word w p.1 in
    let t : take (length w) w ≡ w = ap (take (length w)) (sym (append-nil w)) ∙ take_at w [] (length w) refl in
    let d : drop (length w) w ≡ [] = ap (drop (length w)) (sym (append-nil w)) ∙ drop_at w [] (length w) refl in
    cut_word w (omega arith) ∙ ap (λ m. take m w ∷ words (drop m w)) r ∙ (λ i. t i ∷ words (d i)) ∙ ap (λ ws. w ∷ ws) words_nil

row : (ws : List (List ℕ)) → fields ws ≡ true → words (line_of ws) ≡ ws
unfolding line_of
row [] h = words_nil
row (w ∷ []) h = alone w (and_parts (field w) true h).0
row (w ∷ v ∷ ws) h =
    let p = and_parts (field w) (fields (v ∷ ws)) h in
    one_more w (line_of (v ∷ ws)) p.0 ∙ ap (λ x. w ∷ x) (row (v ∷ ws) p.1)

all_read : (w : List ℕ) → plain w ≡ true → run readable w ≡ length w
all_read [] h = run_nil readable
all_read (b ∷ w) h =
    let p = and_parts (in_word b && readable b) (plain w) h in
    run_cons readable b w (and_parts (in_word b) (readable b) p.0).1 ∙ ap suc (all_read w p.1)

-- a front that is read whole, and what follows it
read_on : (w rest : List ℕ) → plain w ≡ true → run readable (w ++ rest) ≡ length w + run readable rest
read_on [] rest h = omega arith
read_on (b ∷ w) rest h =
    let p = and_parts (in_word b && readable b) (plain w) h in
    let a = run_cons readable b (w ++ rest) (and_parts (in_word b) (readable b) p.0).1 in
    let r = read_on w rest p.1 in
    omega arith

run_line : (ws : List (List ℕ)) → fields ws ≡ true → run readable (line_of ws) ≡ length (line_of ws)
unfolding line_of
run_line [] h = run_nil readable
run_line (w ∷ []) h = all_read w (and_parts (ltb 0 (length w)) (plain w) (and_parts (field w) true h).0).1
run_line (w ∷ v ∷ ws) h =
    let p = and_parts (field w) (fields (v ∷ ws)) h in
    let a = read_on w (32 ∷ line_of (v ∷ ws)) (and_parts (ltb 0 (length w)) (plain w) p.0).1 in
    let b = run_cons readable 32 (line_of (v ∷ ws)) refl in
    let c = run_line (v ∷ ws) p.1 in
    let d = length-append w (32 ∷ line_of (v ∷ ws)) in
    omega arith

whole : (ws : List (List ℕ)) → fields ws ≡ true → read_part (line_of ws) ≡ line_of ws
whole ws h = ap (λ n. take n (line_of ws)) (run_line ws h) ∙ take_all (length (line_of ws)) (line_of ws) (omega arith)

front_of : (line rest : List ℕ) (n : ℕ) → n ≤ length line → take n (line ++ rest) ≡ take n line
front_of line rest n h = take-append-le n line rest h

comment : (line rest : List ℕ) → read_part (line ++ 59 ∷ rest) ≡ read_part line
comment line rest =
    ap (λ n. take n (line ++ 59 ∷ rest)) (run_append readable line (59 ∷ rest) (run_stop readable 59 rest refl)) ∙ front_of line (59 ∷ rest) (run readable line) (run_within readable line)

pub line_laws : LineLaws
line_laws = record { whole = whole; row = row; comment = comment }

-- ---- one word cut off

blank_run : (t : List ℕ) → run (λ b. not (in_word b)) t ≡ run blank t
blank_run [] = run_nil (λ b. not (in_word b)) ∙ sym (run_nil blank)
blank_run (b ∷ t) = go (blank b) refl (blank_run t)
  where
    go : (c : Bool) → blank b ≡ c → run (λ x. not (in_word x)) t ≡ run blank t → run (λ x. not (in_word x)) (b ∷ t) ≡ run blank (b ∷ t)
    go true e ih = run_cons (λ x. not (in_word x)) b t (ap (λ c. not (not c)) e) ∙ ap suc ih ∙ sym (run_cons blank b t e)
    go false e ih = run_stop (λ x. not (in_word x)) b t (ap (λ c. not (not c)) e) ∙ sym (run_stop blank b t e)

-- all are blanks
pub next_none : (t : List ℕ) → length t ≤ run (λ b. not (in_word b)) t → words t ≡ []
next_none t h =
    let n = blank_run t in
    skip_blanks t ∙ ap words (drop_all (run blank t) t (omega arith)) ∙ words_nil

-- u is what follows the blanks
pub next_some : (t u w r : List ℕ) (n m : ℕ) → n ≡ run (λ b. not (in_word b)) t → n < length t → u ≡ drop n t → m ≡ run in_word u → w ≡ take m u → r ≡ drop m u → words t ≡ w ∷ words r
next_some t u w r n m h l e k f g =
    let d : u ≡ drop (run blank t) t = e ∙ ap (λ i. drop i t) (h ∙ blank_run t) in
    let there = word_there u (ap (run blank) d ∙ run_after blank t) (let x = ap length e in let y = length-drop n t in omega arith) in
    skip_blanks t ∙ ap words (sym d) ∙ cut_word u there ∙ (λ i. take (sym k i) u ∷ words (drop (sym k i) u)) ∙ (λ i. sym f i ∷ words (sym g i))
