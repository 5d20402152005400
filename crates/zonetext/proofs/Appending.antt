-- Writing behind what is there, piece by piece.
use Rattle.std.proofs.Common.{◌≡◌, ℕ, suc, ◌+◌, ◌-◌, ◌/◌, ◌%◌, ◌<◌, ◌≤◌, Bool, true, false, ◌&&◌, eqb, ltb, leb, codes, List, [], ◌∷◌, ◌++◌, map, length, take, drop, get_or, Ok, Err, Result, refl, sym, ap, inr, subst, ◌∙◌, true≢false, append_assoc, append-nil, arith, length-append}
use Rattle.std.specs.List.{list_all}
use Rattle.std.proofs.lemmas.Bool.{cond-true, and_from, and_left, and_right, lt-ltb, le-leb, lt-leb, eqb-true}
use Rattle.std.proofs.lemmas.List.{take_at, drop_at, drop_more, drop_all}
use Rattle.names.specs.declared.fault.Fault.{Fault}
use Rattle.names.specs.Labels.{written}
use Rattle.names.specs.Order.{within}
use Rattle.names.proofs.Within.{within_front}
use Rattle.names.proofs.RoundTrip.{written_highest, written_one}
use Rattle.meaning.specs.Model.{Set, Zone}
use Rattle.zonetext.specs.Division.{Piece, Word, Text}
use Rattle.zonetext.specs.Appended.{Appends, AppendsIf}
use Rattle.zonetext.specs.Written.{piece_text, pieces_text, line_text, hex_digit, hexadecimal, other_piece, whole, is_below, name_text, set_line, sets_text, top_line, number_line, times_line, heads_before, written_zone, holds_data, holds_set}

-- ---- what is due, one after the other

-- those that are left, behind what is written, make up the whole
abbrev pub Upto : {X : Type 0} → (List X → List ℕ) → List X → List ℕ → List ℕ → ℕ → Type 0
Upto due xs start out i = out ++ due (drop i xs) ≡ start ++ due xs

module _ {X : Type 0} (due : List X → List ℕ) (one : X → List ℕ) (step : (x : X) (xs : List X) → due (x ∷ xs) ≡ one x ++ due xs) (xs : List X) (start out : List ℕ) (i : ℕ) (u : Upto due xs start out i) where
  pub one_more : (after : List ℕ) (x d : X) → i < length xs → x ≡ get_or xs i d → after ≡ out ++ one x → Upto due xs start after (i + 1)
  one_more after x d l e a =
      let rest = due (drop (i + 1) xs) in
      ap (λ o. o ++ rest) a ∙ append_assoc out (one x) rest ∙ ap (λ o. out ++ o) (sym (step x (drop (i + 1) xs)) ∙ ap (λ y. due (y ∷ drop (i + 1) xs)) e ∙ ap due (sym (drop_more xs i d l))) ∙ u

pub all_done : {X : Type 0} (due : List X → List ℕ) → due [] ≡ [] → (xs : List X) (start out : List ℕ) (i : ℕ) → Upto due xs start out i → length xs ≤ i → out ≡ start ++ due xs
all_done due none xs start out i u l = sym (append-nil out) ∙ ap (λ o. out ++ o) (sym none ∙ ap due (sym (drop_all i xs l))) ∙ u

-- ---- what can be held

-- the answer is that of those that are left
abbrev pub Held : {X Y : Type 0} → (Y → Bool) → (X → Y) → List X → ℕ → Type 0
Held test of xs i = list_all test (map of (drop i xs)) ≡ list_all test (map of xs)

module _ {X Y : Type 0} (test : Y → Bool) (of : X → Y) (xs : List X) (i : ℕ) (h : Held test of xs i) where
  next_held : (x : X) → i < length xs → x ≡ get_or xs i x → (test (of x) && list_all test (map of (drop (i + 1) xs))) ≡ list_all test (map of xs)
  next_held x l e = ap (λ y. list_all test (map of (y ∷ drop (i + 1) xs))) e ∙ ap (λ ys. list_all test (map of ys)) (sym (drop_more xs i x l)) ∙ h

  pub one_held : (x : X) → i < length xs → x ≡ get_or xs i x → test (of x) ≡ true → Held test of xs (i + 1)
  one_held x l e t = ap (λ b. b && list_all test (map of (drop (i + 1) xs))) (sym t) ∙ next_held x l e

  pub not_held : (x : X) → i < length xs → x ≡ get_or xs i x → test (of x) ≡ false → list_all test (map of xs) ≡ false
  not_held x l e t = sym (next_held x l e) ∙ and_left (test (of x)) (list_all test (map of (drop (i + 1) xs))) t

  pub all_held : length xs ≤ i → list_all test (map of xs) ≡ true
  all_held l = sym h ∙ ap (λ ys. list_all test (map of ys)) (drop_all i xs l)

-- ---- pieces

pub pieces_none : pieces_text [] ≡ []
unfolding pieces_text
pieces_none = refl

pub pieces_cons : (p : Piece) (ps : List Piece) → pieces_text (p ∷ ps) ≡ pieces_text (p ∷ []) ++ pieces_text ps
unfolding pieces_text
pieces_cons p ps = ap (λ t. 32 ∷ (t ++ pieces_text ps)) (sym (append-nil (piece_text p)))

pub one_piece : (p : Piece) → pieces_text (p ∷ []) ≡ 32 ∷ piece_text p
unfolding pieces_text
one_piece p = ap (λ t. 32 ∷ t) (append-nil (piece_text p))

-- a space, then the piece
pub piece_done : (p : Piece) (start mid after : List ℕ) → mid ≡ start ++ 32 ∷ [] → after ≡ mid ++ piece_text p → after ≡ start ++ pieces_text (p ∷ [])
piece_done p start mid after e f = f ∙ ap (λ o. o ++ piece_text p) e ∙ append_assoc start (32 ∷ []) (piece_text p) ∙ ap (λ o. start ++ o) (sym (one_piece p))

-- the same of a call that writes it
pub piece_given : {A : Type 0} (p : Piece) (start mid after : List ℕ) (r : Result A Fault) → mid ≡ start ++ 32 ∷ [] → Appends mid (piece_text p) r after → Appends start (pieces_text (p ∷ [])) r after
piece_given p start mid after (Ok a) e h = piece_done p start mid after e h
piece_given p start mid after (Err f) e h = h

pub piece_held : {A : Type 0} (p : Piece) (start mid after : List ℕ) (r : Result A Fault) → mid ≡ start ++ 32 ∷ [] → Appends mid (piece_text p) r after → AppendsIf true start (pieces_text (p ∷ [])) r after
piece_held p start mid after (Ok a) e h = (refl, piece_done p start mid after e h)
piece_held p start mid after (Err f) e h = inr h

pub other_done : (bs start after : List ℕ) → eqb (length bs) 0 ≡ true → after ≡ start ++ 32 ∷ 34 ∷ 34 ∷ [] → after ≡ start ++ pieces_text (other_piece bs ∷ [])
other_done [] start after e h = h ∙ ap (λ o. start ++ o) (sym (one_piece (Text [])))
other_done (b ∷ bs) start after e h = let n = eqb-true (suc (length bs)) 0 e in absurd (omega arith)

other_word : (bs : List ℕ) → eqb (length bs) 0 ≡ false → other_piece bs ≡ Word (hexadecimal bs)
other_word [] e = absurd (true≢false e)
other_word (b ∷ bs) e = refl

pub other_given : {A : Type 0} (bs start mid after : List ℕ) (r : Result A Fault) → eqb (length bs) 0 ≡ false → mid ≡ start ++ 32 ∷ [] → Appends mid (hexadecimal bs) r after → Appends start (pieces_text (other_piece bs ∷ [])) r after
other_given bs start mid after r n e h = subst (λ p. Appends start (pieces_text (p ∷ [])) r after) (sym (other_word bs n)) (piece_given (Word (hexadecimal bs)) start mid after r e h)

pub text_done : (t start a b after : List ℕ) → a ≡ start ++ 32 ∷ 34 ∷ [] → b ≡ a ++ t → after ≡ b ++ 34 ∷ [] → after ≡ start ++ pieces_text (Text t ∷ [])
text_done t start a b after e f g =
    g ∙ ap (λ o. o ++ 34 ∷ []) f ∙ ap (λ o. (o ++ t) ++ 34 ∷ []) e ∙ append_assoc (start ++ 32 ∷ 34 ∷ []) t (34 ∷ []) ∙ append_assoc start (32 ∷ 34 ∷ []) (t ++ 34 ∷ []) ∙ ap (λ o. start ++ o) (sym (one_piece (Text t)))

-- ---- hexadecimal

abbrev pub two_digits : ℕ → List ℕ
two_digits b = hex_digit (b / 16) ∷ hex_digit (b % 16) ∷ []

pub hex_none : hexadecimal [] ≡ []
unfolding hexadecimal
hex_none = refl

pub hex_cons : (b : ℕ) (bs : List ℕ) → hexadecimal (b ∷ bs) ≡ two_digits b ++ hexadecimal bs
unfolding hexadecimal
hex_cons b bs = refl

pub digits_done : (b : ℕ) (out mid after : List ℕ) → mid ≡ out ++ hex_digit (b / 16) ∷ [] → after ≡ mid ++ hex_digit (b % 16) ∷ [] → after ≡ out ++ two_digits b
digits_done b out mid after e f = f ∙ ap (λ o. o ++ hex_digit (b % 16) ∷ []) e ∙ append_assoc out (hex_digit (b / 16) ∷ []) (hex_digit (b % 16) ∷ [])

-- ---- a short name: the whole one but for the apex and the dot before it

pub written_below : (a : List ℕ) (ls rest : List (List ℕ)) → 0 < length rest → written ((a ∷ ls) ++ rest) ≡ written rest ++ 46 ∷ written (a ∷ ls)
written_below a [] [] h = absurd (omega arith)
written_below a [] (r ∷ rs) h = written_highest a r rs ∙ ap (λ t. written (r ∷ rs) ++ 46 ∷ t) (sym (written_one a))
written_below a (b ∷ ls) rest h =
    written_highest a b (ls ++ rest) ∙ ap (λ t. t ++ 46 ∷ a) (written_below b ls rest h)
    ∙ append_assoc (written rest) (46 ∷ written (b ∷ ls)) (46 ∷ a)
    ∙ ap (λ t. written rest ++ 46 ∷ t) (sym (written_highest a b ls))

above_there : (apex n : List (List ℕ)) → within apex n ≡ true → length apex < length n → 0 < length apex → written n ≡ written (drop (length apex) n) ++ 46 ∷ written apex
above_there [] n h l m = absurd (omega arith)
above_there (a ∷ ls) n h l m =
    let f = within_front (a ∷ ls) n h in
    let e = ap length f.1 in
    let g = length-append (a ∷ ls) f.0 in
    ap written f.1 ∙ written_below a ls f.0 (omega arith) ∙ ap (λ r. written r ++ 46 ∷ written (a ∷ ls)) (sym (ap (drop (length (a ∷ ls))) f.1 ∙ drop_at (a ∷ ls) f.0 (length (a ∷ ls)) refl))

-- there is something to leave out
pub short_room : (apex n : List (List ℕ)) (start out : List ℕ) → within apex n ≡ true → length apex < length n → 0 < length apex → out ≡ start ++ written n → length (written apex) + 1 ≤ length out
short_room apex n start out h l m e =
    let a = ap length e in
    let b = length-append start (written n) in
    let c = ap length (above_there apex n h l m) in
    let d = length-append (written (drop (length apex) n)) (46 ∷ written apex) in
    omega arith

short_is : (apex n : List (List ℕ)) → within apex n ≡ true → length apex < length n → name_text apex n ≡ written (drop (length apex) n)
short_is apex n h l = cond-true (is_below apex n) (written (drop (length apex) n)) (whole n) (and_from (within apex n) (ltb (length apex) (length n)) h (lt-ltb (length apex) (length n) l))

pub short_done : (apex n : List (List ℕ)) (start out after : List ℕ) (k : ℕ) → within apex n ≡ true → length apex < length n → 0 < length apex → out ≡ start ++ written n → k ≡ length out - (length (written apex) + 1) → after ≡ take k out → after ≡ start ++ name_text apex n
short_done apex n start out after k h l m e f g =
    let w = written (drop (length apex) n) in
    let parts : out ≡ (start ++ w) ++ 46 ∷ written apex = e ∙ ap (λ t. start ++ t) (above_there apex n h l m) ∙ sym (append_assoc start w (46 ∷ written apex)) in
    let a = ap length parts in
    let b = length-append (start ++ w) (46 ∷ written apex) in
    let n-is : length (start ++ w) ≡ k = omega arith in
    g ∙ ap (take k) parts ∙ take_at (start ++ w) (46 ∷ written apex) k n-is ∙ ap (λ t. start ++ t) (sym (short_is apex n h l))

-- ---- the lines of a zone

pub heads_done : (out a b after w n x y z : List ℕ) → a ≡ out ++ codes "top " → b ≡ a ++ w → after ≡ b ++ (10 ∷ (codes "number " ++ (n ++ (10 ∷ (codes "times " ++ (x ++ (32 ∷ (y ++ (32 ∷ (z ++ 10 ∷ [])))))))))) → after ≡ out ++ (line_text (codes "top") (Word w ∷ []) ++ 10 ∷ (line_text (codes "number") (Word n ∷ []) ++ 10 ∷ (line_text (codes "times") (Word x ∷ Word y ∷ Word z ∷ []) ++ 10 ∷ [])))
unfolding pieces_text
heads_done out a b after w n x y z e f g =
    g ∙ ap (λ o. o ++ (10 ∷ (codes "number " ++ (n ++ (10 ∷ (codes "times " ++ (x ++ (32 ∷ (y ++ (32 ∷ (z ++ 10 ∷ [])))))))))))
    (f ∙ ap (λ o. o ++ w) e) ∙ simp (append_assoc, append-nil)

pub set_done : (out a b c d w k t : List ℕ) (ps : List Piece) → a ≡ out ++ codes "set " → b ≡ a ++ w → c ≡ b ++ (32 ∷ (k ++ (32 ∷ t))) → d ≡ c ++ pieces_text ps → d ≡ out ++ line_text (codes "set") (Word w ∷ Word k ∷ Word t ∷ ps)
unfolding pieces_text
set_done out a b c d w k t ps e f g h = h ∙ ap (λ o. o ++ pieces_text ps) (g ∙ ap (λ o. o ++ (32 ∷ (k ++ (32 ∷ t)))) (f ∙ ap (λ o. o ++ w) e)) ∙ simp append_assoc

-- a set's line, and whether it isn't too long
pub line_held : (apex : List (List ℕ)) (s : Set) (out d : List ℕ) → d ≡ out ++ set_line apex s → length d - length out ≤ 1200 → holds_data s.content ≡ true → holds_set apex s ≡ true
line_held apex s out d e n h =
    let a = ap length e in
    let b = length-append out (set_line apex s) in
    and_from (holds_data s.content) (leb (length (set_line apex s)) 1200) h (le-leb (length (set_line apex s)) 1200 (omega arith))

pub line_too_long : (apex : List (List ℕ)) (s : Set) (out d : List ℕ) → d ≡ out ++ set_line apex s → 1200 < length d - length out → holds_set apex s ≡ false
line_too_long apex s out d e n =
    let a = ap length e in
    let b = length-append out (set_line apex s) in
    and_right (holds_data s.content) (leb (length (set_line apex s)) 1200) (lt-leb (length (set_line apex s)) 1200 (omega arith))

pub line_ended : (out l d after : List ℕ) → d ≡ out ++ l → after ≡ d ++ 10 ∷ [] → after ≡ out ++ (l ++ 10 ∷ [])
line_ended out l d after e f = f ∙ ap (λ o. o ++ 10 ∷ []) e ∙ append_assoc out l (10 ∷ [])

pub sets_none : (apex : List (List ℕ)) → sets_text apex [] ≡ []
unfolding sets_text
sets_none apex = refl

pub sets_cons : (apex : List (List ℕ)) (s : Set) (ss : List Set) → sets_text apex (s ∷ ss) ≡ (set_line apex s ++ 10 ∷ []) ++ sets_text apex ss
unfolding sets_text
sets_cons apex s ss = sym (append_assoc (set_line apex s) (10 ∷ []) (sets_text apex ss))

pub zone_done : (z : Zone) (start out : List ℕ) → start ≡ heads_before z [] → out ≡ start ++ sets_text z.apex z.sets → out ≡ written_zone z
unfolding written_zone
zone_done z start out e f =
    let sets = sets_text z.apex z.sets in
    let times = append_assoc (times_line z) (10 ∷ []) sets in
    let number = append_assoc (number_line z) (10 ∷ (times_line z ++ 10 ∷ [])) sets ∙ ap (λ t. number_line z ++ 10 ∷ t) times in
    f ∙ ap (λ o. o ++ sets) e ∙ append_assoc (top_line z) (10 ∷ (number_line z ++ 10 ∷ (times_line z ++ 10 ∷ []))) sets ∙ ap (λ t. top_line z ++ 10 ∷ t) number
