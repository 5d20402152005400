-- A name as it is written label by label, and that its bytes are ASCII.
use Rattle.std.proofs.Common.{◌≡◌, ℕ, zero, suc, ◌<◌, true, ◌&&◌, leb, List, [], ◌∷◌, ◌++◌, reverse, length, get_or, IsAscii, sym, refl, ap, ◌∙◌, arith}
use mathlib.Core.List.{reverse-append}
use Rattle.std.proofs.lemmas.Str.Ascii.{IsAscii-nil, IsAscii-cons}
use Rattle.std.proofs.lemmas.List.{append-nil}
use Rattle.std.proofs.lemmas.Bool.{and_parts, and_from}
use Rattle.std.proofs.lemmas.Bool.Decides.{nat_tests}
use Rattle.names.specs.Labels.{label_byte, label_bytes, proper_label, proper_labels, dotted, written}

-- ---- the bytes of a label are ASCII

byte_ascii : (b : ℕ) → label_byte b ≡ true → b < 128
byte_ascii b h = grind (arith, nat_tests)

bytes_ascii : (bs : List ℕ) → label_bytes bs ≡ true → IsAscii bs
bytes_ascii [] h = IsAscii-nil
bytes_ascii (b ∷ bs) h =
    let p = and_parts (label_byte b) (label_bytes bs) h in
    IsAscii-cons b bs (byte_ascii b p.0) (bytes_ascii bs p.1)

pub label_proper : (ls : List (List ℕ)) (i : ℕ) → proper_labels ls ≡ true → i < length ls → proper_label (get_or ls i []) ≡ true
label_proper [] i h l = absurd (omega arith)
label_proper (m ∷ ls) zero h l = (and_parts (proper_label m) (proper_labels ls) h).0
label_proper (m ∷ ls) (suc i) h l = label_proper ls i (and_parts (proper_label m) (proper_labels ls) h).1 (omega arith)

pub label_ascii : (l : List ℕ) → proper_label l ≡ true → IsAscii l
label_ascii l h = bytes_ascii l (and_parts (leb 1 (length l) && leb (length l) 63) (label_bytes l) h).1

-- ---- label by label

-- each piece behind a dot
abbrev pub trail : List (List ℕ) → List ℕ
trail [] = []
trail (m ∷ ms) = 46 ∷ (m ++ trail ms)

pub dotted_trail : (l : List ℕ) (ms : List (List ℕ)) → dotted (l ∷ ms) ≡ l ++ trail ms
unfolding dotted
dotted_trail l [] = sym (append-nil l)
dotted_trail l (m ∷ ms) = ap (λ t. l ++ 46 ∷ t) (dotted_trail m ms)

-- the lowest label, then the others
pub written_lowest : (upper : List (List ℕ)) (l : List ℕ) → written (upper ++ l ∷ []) ≡ l ++ trail (reverse upper)
unfolding written
written_lowest [] l = ap dotted (reverse-append [] (l ∷ [])) ∙ dotted_trail l []
written_lowest (m ∷ upper) l = ap dotted (reverse-append (m ∷ upper) (l ∷ [])) ∙ dotted_trail l (reverse (m ∷ upper))

-- of proper labels the last, and those before it
pub last_proper : (upper : List (List ℕ)) (l : List ℕ) → proper_labels (upper ++ l ∷ []) ≡ true → (proper_labels upper ≡ true) × (proper_label l ≡ true)
last_proper [] l h = (refl, (and_parts (proper_label l) true h).0)
last_proper (m ∷ upper) l h =
    let p = and_parts (proper_label m) (proper_labels (upper ++ l ∷ [])) h in
    let q = last_proper upper l p.1 in
    (and_from (proper_label m) (proper_labels upper) p.0 q.0, q.1)

pub written_root : (ls : List (List ℕ)) → length ls ≡ 0 → written ls ≡ 46 ∷ []
unfolding written
written_root [] h = refl
written_root (l ∷ ls) h = absurd (omega arith)
