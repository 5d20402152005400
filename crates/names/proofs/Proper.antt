-- The limits of a name, by the weight of its labels: each weighs its bytes and one.
use Rattle.std.proofs.Common.{◌≡◌, ℕ, zero, ◌+◌, ◌<◌, ◌≤◌, true, ◌&&◌, ltb, leb, List, [], ◌∷◌, ◌++◌, reverse, length, get_or, sym, refl, ap, ◌∙◌, arith, length-append}
use mathlib.Core.List.{reverse-cons}
use Rattle.std.proofs.lemmas.List.Edits.{length-between}
use Rattle.std.proofs.lemmas.Bool.{and_parts, and_from, leb-true, le-leb, ltb-true}
use Rattle.std.proofs.lemmas.Bool.Decides.{nat_tests}
use Rattle.std.specs.List.{list_all}
use Rattle.names.specs.Labels.{label_byte, label_bytes, proper_label, proper_labels, dotted, written, proper}
use Rattle.names.specs.Layout.{pieces, rising}
use Rattle.names.specs.Wire.{wire_labels, wire}
use Rattle.names.proofs.Pieces.{rising_room}

abbrev pub weight : List (List ℕ) → ℕ
weight [] = 0
weight (l ∷ ls) = length l + 1 + weight ls

pub weight_append : (ls ms : List (List ℕ)) → weight (ls ++ ms) ≡ weight ls + weight ms
weight_append [] ms = omega arith
weight_append (l ∷ ls) ms = let h = weight_append ls ms in omega arith

weight_reverse : (ls : List (List ℕ)) → weight (reverse ls) ≡ weight ls
weight_reverse [] = refl
weight_reverse (l ∷ ls) =
    let h = weight_reverse ls in
    let a = ap weight (reverse-cons l ls) in
    let b = weight_append (reverse ls) (l ∷ []) in
    omega arith

length_dotted : (l : List ℕ) (ls : List (List ℕ)) → length (dotted (l ∷ ls)) + 1 ≡ weight (l ∷ ls)
unfolding dotted
length_dotted l [] = omega arith
length_dotted l (m ∷ ls) =
    let h = length_dotted m ls in
    let a = length-append l (46 ∷ dotted (m ∷ ls)) in
    omega arith

-- of a list that isn't empty
length_dotted_all : (ls : List (List ℕ)) → 0 < length ls → length (dotted ls) + 1 ≡ weight ls
length_dotted_all [] h = absurd (omega arith)
length_dotted_all (l ∷ ls) h = length_dotted l ls

pub length_written : (l : List ℕ) (ls : List (List ℕ)) → length (written (l ∷ ls)) + 1 ≡ weight (l ∷ ls)
unfolding written
length_written l ls =
    let n = ap length (reverse-cons l ls) in
    let m = length-append (reverse ls) (l ∷ []) in
    let h = length_dotted_all (reverse (l ∷ ls)) (omega arith) in
    let w = weight_reverse (l ∷ ls) in
    omega arith

-- of a name by its number of labels
pub length_written_root : (ls : List (List ℕ)) → 0 ≡ length ls → length (written ls) ≡ 1
unfolding written
length_written_root [] h = refl
length_written_root (l ∷ ls) h = absurd (omega arith)

pub length_written_all : (ls : List (List ℕ)) → 0 < length ls → length (written ls) + 1 ≡ weight ls
length_written_all [] h = absurd (omega arith)
length_written_all (l ∷ ls) h = length_written l ls

pub length_wire_labels : (ls : List (List ℕ)) → length (wire_labels ls) ≡ weight ls
unfolding wire_labels
length_wire_labels [] = refl
length_wire_labels (l ∷ ls) =
    let h = length_wire_labels ls in
    let a = length-append l (wire_labels ls) in
    omega arith

pub length_wire : (ls : List (List ℕ)) → length (wire ls) ≡ weight ls + 1
unfolding wire
length_wire ls = let h = length_wire_labels ls in omega arith

limit_of : (m n : ℕ) → m + 1 ≡ n → leb m 255 ≡ leb n 256
limit_of m n h = grind (arith, nat_tests)

written_limit : (ls : List (List ℕ)) → leb (length (written ls)) 255 ≡ leb (weight ls) 256
unfolding written
written_limit [] = refl
written_limit (l ∷ ls) = limit_of (length (written (l ∷ ls))) (weight (l ∷ ls)) (length_written l ls)

pub record Limits (ls : List (List ℕ)) : Type 0 where
  pub few : length ls ≤ 16
  pub labels : proper_labels ls ≡ true
  pub short : weight ls ≤ 256

pub limits : (ls : List (List ℕ)) → proper ls ≡ true → Limits ls
unfolding proper
limits ls h =
    let p = and_parts (leb (length ls) 16 && proper_labels ls) (leb (length (written ls)) 255) h in
    let q = and_parts (leb (length ls) 16) (proper_labels ls) p.0 in
    record {
      few = leb-true (length ls) 16 q.0;
      labels = q.1;
      short = leb-true (weight ls) 256 (sym (written_limit ls) ∙ p.1);
    }

pub proper_from : (ls : List (List ℕ)) → Limits ls → proper ls ≡ true
unfolding proper
proper_from ls h =
    and_from (leb (length ls) 16 && proper_labels ls) (leb (length (written ls)) 255)
    (and_from (leb (length ls) 16) (proper_labels ls) (le-leb (length ls) 16 h.few) h.labels)
    (written_limit ls ∙ le-leb (weight ls) 256 h.short)

pub labels_append : (ls ms : List (List ℕ)) → proper_labels (ls ++ ms) ≡ true → (proper_labels ls ≡ true) × (proper_labels ms ≡ true)
labels_append [] ms h = (refl, h)
labels_append (l ∷ ls) ms h =
    let p = and_parts (proper_label l) (proper_labels (ls ++ ms)) h in
    let q = labels_append ls ms p.1 in
    (and_from (proper_label l) (proper_labels ls) p.0 q.0, q.1)

pub labels_both : (ls ms : List (List ℕ)) → proper_labels ls ≡ true → proper_labels ms ≡ true → proper_labels (ls ++ ms) ≡ true
labels_both [] ms h k = k
labels_both (l ∷ ls) ms h k =
    let p = and_parts (proper_label l) (proper_labels ls) h in
    and_from (proper_label l) (proper_labels (ls ++ ms)) p.0 (labels_both ls ms p.1 k)

-- a name's upper labels are a name
pub proper_front : (ls ms : List (List ℕ)) → proper (ls ++ ms) ≡ true → proper ls ≡ true
proper_front ls ms h =
    let p = limits (ls ++ ms) h in
    let n = length-append ls ms in
    let w = weight_append ls ms in
    proper_from ls (record { few = omega (arith, p.few); labels = (labels_append ls ms p.labels).0; short = omega (arith, p.short) })

-- the weight of labels as they lie in memory
pub weight_pieces : (s : ℕ) (es bs : List ℕ) → rising s es (length bs) ≡ true → weight (pieces s es bs) + s ≡ get_or (s ∷ es) (length es) 0 + length es
unfolding pieces rising
weight_pieces s [] bs h = omega arith
weight_pieces s (e ∷ es) bs h =
    let p = and_parts (ltb s e) (rising e es (length bs)) h in
    let a = ltb-true s e p.0 in
    let b = rising_room e es (length bs) p.1 zero (omega arith) in
    let n = length-between bs s e b in
    let r = weight_pieces e es bs p.1 in
    omega arith

pub all_bytes : (bs : List ℕ) → label_bytes bs ≡ list_all label_byte bs
all_bytes [] = refl
all_bytes (b ∷ bs) = ap (λ x. label_byte b && x) (all_bytes bs)
