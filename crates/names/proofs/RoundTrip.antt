-- Reading what was written, and writing what was read.
use Rattle.std.proofs.Common.{◌≡◌, ℕ, zero, suc, ◌+◌, ◌-◌, ◌<◌, Bool, true, false, cond, not, ◌&&◌, eqb, leb, ◌⊎◌, List, [], ◌∷◌, ◌++◌, reverse, length, get_or, take, Ok, sym, refl, ap, ◌∙◌, inl, inr, true≢false, append_assoc, arith, length-append}
use mathlib.Core.List.{reverse-cons, reverse-reverse}
use Rattle.std.proofs.lemmas.List.{take_more, take_all, take_at, get_or_at, get_or-append_right, length_push}
use Rattle.std.proofs.lemmas.Bool.{and_parts, and_from, and_right, and_left, eqb-true, ne_eqb, eq-eqb, not-true}
use Rattle.std.proofs.lemmas.Bool.Decides.{nat_tests}
use Rattle.names.specs.Labels.{label_byte, label_bytes, proper_label, proper_labels, dotted, written, proper}
use Rattle.names.specs.Names.{name_of}
use Rattle.names.specs.Reading.{first_piece, more_pieces, labels_in, dotless, last_dot, is_dot, read_name, read_below, WrittenLaws}
use Rattle.names.proofs.Extend.{named_so}
use Rattle.names.proofs.Pieced.{labels_cut, labels_one}
use Rattle.names.proofs.Proper.{limits, labels_append}
use Rattle.names.proofs.Push.{label_length, named}
use Rattle.names.proofs.Readings.{read_dot, read_labels, below_dot, below_whole, below_short, last_there}

-- ---- joining what was cut

dotted_cons : (b : ℕ) (p : List ℕ) (ps : List (List ℕ)) → dotted ((b ∷ p) ∷ ps) ≡ b ∷ dotted (p ∷ ps)
unfolding dotted
dotted_cons b p [] = refl
dotted_cons b p (q ∷ ps) = refl

join_pieces : (t : List ℕ) → dotted (first_piece t ∷ more_pieces t) ≡ t
unfolding first_piece more_pieces dotted
join_pieces [] = refl
join_pieces (b ∷ t) = go (eqb b 46) refl (join_pieces t)
  where
    go : (c : Bool) → eqb b 46 ≡ c → dotted (first_piece t ∷ more_pieces t) ≡ t → dotted (cond (eqb b 46) [] (b ∷ first_piece t) ∷ cond (eqb b 46) (first_piece t ∷ more_pieces t) (more_pieces t)) ≡ b ∷ t
    go true e h = ap (λ c. dotted (cond c [] (b ∷ first_piece t) ∷ cond c (first_piece t ∷ more_pieces t) (more_pieces t))) e ∙ (λ i. sym (eqb-true b 46 e) i ∷ h i)
    go false e h = ap (λ c. dotted (cond c [] (b ∷ first_piece t) ∷ cond c (first_piece t ∷ more_pieces t) (more_pieces t))) e ∙ dotted_cons b (first_piece t) (more_pieces t) ∙ ap (λ x. b ∷ x) h

written_turned : (ls : List (List ℕ)) → 0 < length ls → written ls ≡ dotted (reverse ls)
unfolding written
written_turned [] h = absurd (omega arith)
written_turned (l ∷ ls) h = refl

length_labels : (t : List ℕ) → 0 < length (labels_in t)
unfolding labels_in
length_labels t =
    let a = ap length (reverse-cons (first_piece t) (more_pieces t)) in
    let b = length-append (reverse (more_pieces t)) (first_piece t ∷ []) in
    omega arith

pub written_labels : (t : List ℕ) → written (labels_in t) ≡ t
unfolding labels_in
written_labels t = written_turned (labels_in t) (length_labels t) ∙ ap dotted (reverse-reverse (first_piece t ∷ more_pieces t)) ∙ join_pieces t

-- ---- cutting what was joined

byte_no_dot : (b : ℕ) → label_byte b ≡ true → not (eqb b 46) ≡ true
byte_no_dot b h = grind (arith, nat_tests)

bytes_dotless : (bs : List ℕ) → label_bytes bs ≡ true → dotless bs ≡ true
bytes_dotless [] h = refl
bytes_dotless (b ∷ bs) h =
    let p = and_parts (label_byte b) (label_bytes bs) h in
    and_from (not (eqb b 46)) (dotless bs) (byte_no_dot b p.0) (bytes_dotless bs p.1)

label_dotless : (l : List ℕ) → proper_label l ≡ true → dotless l ≡ true
label_dotless l h = bytes_dotless l (and_parts (leb 1 (length l) && leb (length l) 63) (label_bytes l) h).1

dotted_push : (p : List ℕ) (ps : List (List ℕ)) (l : List ℕ) → dotted ((p ∷ ps) ++ l ∷ []) ≡ dotted (p ∷ ps) ++ (46 ∷ l)
unfolding dotted
dotted_push p [] l = refl
dotted_push p (q ∷ ps) l = ap (λ t. p ++ 46 ∷ t) (dotted_push q ps l) ∙ sym (append_assoc p (46 ∷ dotted (q ∷ ps)) (46 ∷ l))

dotted_push_all : (ps : List (List ℕ)) (l : List ℕ) → 0 < length ps → dotted (ps ++ l ∷ []) ≡ dotted ps ++ (46 ∷ l)
dotted_push_all [] l h = absurd (omega arith)
dotted_push_all (p ∷ ps) l h = dotted_push p ps l

-- the highest label stands last
pub written_highest : (l m : List ℕ) (ms : List (List ℕ)) → written (l ∷ m ∷ ms) ≡ written (m ∷ ms) ++ (46 ∷ l)
unfolding written
written_highest l m ms =
    let a = length-append (reverse ms) (m ∷ []) in
    let b = ap length (reverse-cons m ms) in
    ap dotted (reverse-cons l (m ∷ ms)) ∙ dotted_push_all (reverse (m ∷ ms)) l (omega arith)

pub written_one : (l : List ℕ) → written (l ∷ []) ≡ l
unfolding written dotted
written_one l = refl

pub labels_written : (ls : List (List ℕ)) → proper_labels ls ≡ true → 0 < length ls → labels_in (written ls) ≡ ls
labels_written [] h n = absurd (omega arith)
labels_written (l ∷ []) h n =
    ap labels_in (written_one l) ∙ labels_one l (label_dotless l (and_parts (proper_label l) true h).0)
labels_written (l ∷ m ∷ ms) h n =
    let p = and_parts (proper_label l) (proper_labels (m ∷ ms)) h in
    ap labels_in (written_highest l m ms) ∙ labels_cut (written (m ∷ ms)) l (label_dotless l p.0) ∙ ap (λ r. l ∷ r) (labels_written (m ∷ ms) p.1 (omega arith))

-- ---- last dots

dotless_at : (t : List ℕ) (i : ℕ) → dotless t ≡ true → i < length t → get_or t i 0 ≡ 46 → ⊥
dotless_at [] i h l e = omega arith
dotless_at (b ∷ t) zero h l e = let p = (and_parts (not (eqb b 46)) (dotless t) h).0 in true≢false (sym (eq-eqb b 46 e) ∙ not-true (eqb b 46) p)
dotless_at (b ∷ t) (suc i) h l e = dotless_at t i (and_parts (not (eqb b 46)) (dotless t) h).1 (omega arith) e

-- what ends with a label doesn't end with a dot
ends_with_label : (xs l : List ℕ) → dotless l ≡ true → 0 < length l → last_dot (xs ++ l) ≡ false
ends_with_label xs l h n =
    let a = length-append xs l in
    let at : get_or (xs ++ l) (length (xs ++ l) - 1) 0 ≡ get_or l (length l - 1) 0 =
    get_or-append_right xs l (length xs) (length (xs ++ l) - 1) 0 refl (omega arith) ∙ ap (λ k. get_or l k 0) (omega arith) in
    ne_eqb (get_or (xs ++ l) (length (xs ++ l) - 1) 0) 46 (λ e. dotless_at l (length l - 1) h (omega arith) (sym at ∙ e))

pub written_last : (ls : List (List ℕ)) → proper_labels ls ≡ true → 0 < length ls → last_dot (written ls) ≡ false
written_last [] h n = absurd (omega arith)
written_last (l ∷ []) h n =
    let g = (and_parts (proper_label l) true h).0 in
    ap last_dot (written_one l) ∙ ends_with_label [] l (label_dotless l g) (label_length l g).0
written_last (l ∷ m ∷ ms) h n =
    let g = (and_parts (proper_label l) (proper_labels (m ∷ ms)) h).0 in
    ap last_dot (written_highest l m ms ∙ sym (append_assoc (written (m ∷ ms)) (46 ∷ []) l)) ∙ ends_with_label (written (m ∷ ms) ++ 46 ∷ []) l (label_dotless l g) (label_length l g).0

pub written_there : (ls : List (List ℕ)) → proper_labels ls ≡ true → 0 < length ls → 0 < length (written ls)
written_there [] h n = absurd (omega arith)
written_there (l ∷ []) h n =
    let g = (label_length l (and_parts (proper_label l) true h).0).0 in
    let e = ap length (written_one l) in
    omega arith
written_there (l ∷ m ∷ ms) h n =
    let e = ap length (written_highest l m ms) in
    let a = length-append (written (m ∷ ms)) (46 ∷ l) in
    omega arith

not_dot : (t : List ℕ) → last_dot t ≡ false → is_dot t ≡ false
not_dot t h = and_right (eqb (length t) 1) (last_dot t) h

dot_is : (t : List ℕ) → is_dot t ≡ true → t ≡ 46 ∷ []
dot_is t h =
    let p = and_parts (eqb (length t) 1) (last_dot t) h in
    one t (eqb-true (length t) 1 p.0) (eqb-true (get_or t (length t - 1) 0) 46 p.1)
  where
    one : (s : List ℕ) → length s ≡ 1 → get_or s (length s - 1) 0 ≡ 46 → s ≡ 46 ∷ []
    one [] e f = absurd (omega arith)
    one (b ∷ []) e f = ap (λ x. x ∷ []) f
    one (b ∷ c ∷ s) e f = absurd (omega arith)

-- a text with a last dot is what stands before it, and the dot
before_last : (t : List ℕ) → last_dot t ≡ true → take (length t - 1) t ++ 46 ∷ [] ≡ t
before_last t h =
    let n = last_there t h in
    let e : length t - 1 + 1 ≡ length t = omega arith in
    let d = eqb-true (get_or t (length t - 1) 0) 46 h in
    ap (λ b. take (length t - 1) t ++ b ∷ []) (sym d) ∙ sym (take_more t (length t - 1) 0 (omega arith)) ∙ ap (λ k. take k t) e ∙ take_all (length t) t (omega arith)

-- ---- the laws

root_written : read_name (written []) ≡ Ok []
unfolding read_name written
root_written = refl

read_written : (ls : List (List ℕ)) → proper ls ≡ true → read_name (written ls) ≡ Ok ls
read_written [] h = root_written
read_written (l ∷ ls) h =
    let p = (limits (l ∷ ls) h).labels in
    let e = labels_written (l ∷ ls) p (omega arith) in
    read_labels (written (l ∷ ls)) (not_dot (written (l ∷ ls)) (written_last (l ∷ ls) p (omega arith))) ∙ ap name_of e ∙ named (l ∷ ls) h

pub written_root : written [] ≡ 46 ∷ []
unfolding written
written_root = refl

ok_root : (ls : List (List ℕ)) → ◌≡◌ {A = Rattle.std.specs.declared.result.Result.Result (List (List ℕ)) Rattle.names.specs.declared.fault.Fault.Fault} (Ok []) (Ok ls) → ls ≡ []
ok_root ls h = cc

written_read : (t : List ℕ) (ls : List (List ℕ)) → read_name t ≡ Ok ls → written ls ≡ t
written_read t ls h = go (is_dot t) refl
  where
    go : (b : Bool) → is_dot t ≡ b → written ls ≡ t
    go true e = ap written (ok_root ls (sym (read_dot t e) ∙ h)) ∙ written_root ∙ sym (dot_is t e)
    go false e = ap written (named_so (labels_in t) ls (sym (read_labels t e) ∙ h)).1 ∙ written_labels t

root_below : (apex : List (List ℕ)) → read_below apex (written []) ≡ Ok []
unfolding read_below written
root_below apex = refl

short_written : (apex ls : List (List ℕ)) → proper (apex ++ ls) ≡ true → 0 < length ls → read_below apex (written ls) ≡ Ok (apex ++ ls)
short_written apex ls h n =
    let p = (labels_append apex ls (limits (apex ++ ls) h).labels).1 in
    let d = written_last ls p n in
    below_short (written ls) apex (not_dot (written ls) d) d ∙ ap (λ x. name_of (apex ++ x)) (labels_written ls p n) ∙ named (apex ++ ls) h

whole_written : (ls : List (List ℕ)) → proper ls ≡ true → read_below [] (written ls) ≡ Ok ls
whole_written [] h = root_below []
whole_written (l ∷ ls) h = short_written [] (l ∷ ls) h (omega arith)

written_whole : (t : List ℕ) (ls : List (List ℕ)) → read_below [] t ≡ Ok ls → (written ls ≡ t) ⊎ (written ls ++ 46 ∷ [] ≡ t)
written_whole t ls h = go (is_dot t) (last_dot t) refl refl
  where
    go : (b c : Bool) → is_dot t ≡ b → last_dot t ≡ c → (written ls ≡ t) ⊎ (written ls ++ 46 ∷ [] ≡ t)
    go true c e f = inl (ap written (ok_root ls (sym (below_dot t [] e) ∙ h)) ∙ written_root ∙ sym (dot_is t e))
    go false true e f = inr (ap (λ x. x ++ 46 ∷ []) (ap written (named_so (labels_in (take (length t - 1) t)) ls (sym (below_whole t [] e f) ∙ h)).1 ∙ written_labels (take (length t - 1) t)) ∙ before_last t f)
    go false false e f = inl (ap written (named_so (labels_in t) ls (sym (below_short t [] e f) ∙ h)).1 ∙ written_labels t)

dotted_written : (apex ls : List (List ℕ)) → proper ls ≡ true → 0 < length ls → read_below apex (written ls ++ 46 ∷ []) ≡ Ok ls
dotted_written apex ls h n =
    let p = (limits ls h).labels in
    let w = written_there ls p n in
    let len = length_push (written ls) 46 in
    let k : length (written ls ++ 46 ∷ []) - 1 ≡ length (written ls) = omega arith in
    let t = written ls ++ 46 ∷ [] in
    let d : last_dot t ≡ true = eq-eqb (get_or t (length t - 1) 0) 46 (ap (λ j. get_or t j 0) k ∙ get_or_at (written ls) 46 [] 0 (length (written ls)) refl) in
    let nd : is_dot t ≡ false = and_left (eqb (length t) 1) (last_dot t) (ne_eqb (length t) 1 (λ e. omega arith)) in
    let cut : take (length t - 1) t ≡ written ls = ap (λ j. take j t) k ∙ take_at (written ls) (46 ∷ []) (length (written ls)) refl in
    below_whole t apex nd d ∙ ap (λ x. name_of (labels_in x)) cut ∙ ap name_of (labels_written ls p n) ∙ named ls h

written_short : (apex : List (List ℕ)) (t : List ℕ) (ls : List (List ℕ)) → read_below apex t ≡ Ok ls → (read_below [] t ≡ Ok ls) ⊎ ((ms : List (List ℕ)) × (written ms ≡ t) × (ls ≡ apex ++ ms))
written_short apex t ls h = go (is_dot t) (last_dot t) refl refl
  where
    go : (b c : Bool) → is_dot t ≡ b → last_dot t ≡ c → (read_below [] t ≡ Ok ls) ⊎ ((ms : List (List ℕ)) × (written ms ≡ t) × (ls ≡ apex ++ ms))
    go true c e f = inl (below_dot t [] e ∙ sym (below_dot t apex e) ∙ h)
    go false true e f = inl (below_whole t [] e f ∙ sym (below_whole t apex e f) ∙ h)
    go false false e f = inr (labels_in t, written_labels t, (named_so (apex ++ labels_in t) ls (sym (below_short t apex e f) ∙ h)).1)

pub written_laws : WrittenLaws
written_laws = record {
  read_written = read_written;
  written_read = written_read;
  whole_written = whole_written;
  written_whole = written_whole;
  dotted_written = dotted_written;
  short_written = short_written;
  written_short = written_short;
}
