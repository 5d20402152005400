-- Names on the wire: the loop that cuts their labels, and the round trip.
use Rattle.std.proofs.Common.{◌≡◌, ℕ, zero, suc, ◌-◌, ◌<◌, ◌≤◌, Bool, true, false, cond, leb, List, [], ◌∷◌, ◌++◌, length, get_or, take, drop, Some, None, Ok, Err, Option, Result, sym, refl, ap, ◌∙◌, true≢false, append_assoc, append-nil, arith, length-append}
use Rattle.std.specs.List.{between}
use Rattle.std.proofs.lemmas.Slice.{first_rest}
use Rattle.std.proofs.lemmas.List.{take_at, drop_at, take-append-drop, length-take-le}
use Rattle.std.proofs.lemmas.Bool.{cond-true, cond-false, le-leb, leb-true}
use Rattle.names.specs.declared.fault.Fault.{Fault}
use Rattle.names.specs.declared.fault.Fault.TheVariants.{Malformed, BadName}
use Rattle.names.specs.Labels.{proper, written}
use Rattle.names.specs.Names.{name_of, one_more}
use Rattle.names.specs.Wire.{wire_labels, wire, cut_label, behind, cut_labels, judged, read_wire, WireLaws}
use Rattle.names.proofs.Proper.{proper_front}

-- ---- one label

cut_some : (n : ℕ) (bs : List ℕ) → n ≤ length bs → cut_label (n ∷ bs) ≡ Some (take n bs, drop n bs)
cut_some n bs h = cond-true (leb n (length bs)) (Some (take n bs, drop n bs)) None (le-leb n (length bs) h)

-- by the first byte and those behind it
pub cut_first : (bs f b : List ℕ) → 0 < length bs → get_or bs 0 0 ≤ length (between 1 (length bs) bs) → f ≡ take (get_or bs 0 0) (between 1 (length bs) bs) → b ≡ drop (get_or bs 0 0) (between 1 (length bs) bs) → Some (f, b) ≡ cut_label bs
cut_first bs f b some fits p q =
    (λ i. Some (p i, q i)) ∙ sym (ap cut_label (first_rest bs 0 some) ∙ cut_some (get_or bs 0 0) (between 1 (length bs) bs) fits)

some_so : {A : Type 0} (x y : A) → Some x ≡ Some y → x ≡ y
some_so x y h = cc

-- as many labels by one label and the others
pub cut_one : (n : ℕ) (bs l after : List ℕ) → cut_label bs ≡ Some (l, after) → cut_labels (suc n) bs ≡ behind (l ∷ []) (cut_labels n after)
unfolding cut_labels
cut_one n [] l after h = let z : ◌≡◌ {A = ℕ} 0 1 = cc in absurd (omega arith)
cut_one n (len ∷ bs) l after h = go (leb len (length bs)) refl
  where
    go : (b : Bool) → leb len (length bs) ≡ b → cond (leb len (length bs)) (behind (take len bs ∷ []) (cut_labels n (drop len bs))) None ≡ behind (l ∷ []) (cut_labels n after)
    go true e =
        let s : Some (take len bs, drop len bs) ≡ Some (l, after) = sym (cond-true (leb len (length bs)) (Some (take len bs, drop len bs)) None e) ∙ h in
        let m : (take len bs, drop len bs) ≡ (l, after) = some_so (take len bs, drop len bs) (l, after) s in
        let p : take len bs ≡ l = ap (λ (x : List ℕ × List ℕ). x.0) m in
        let q : drop len bs ≡ after = ap (λ (x : List ℕ × List ℕ). x.1) m in
        cond-true (leb len (length bs)) (behind (take len bs ∷ []) (cut_labels n (drop len bs))) None e ∙ (λ i. behind (p i ∷ []) (cut_labels n (q i)))
    go false e = let s = sym (cond-false (leb len (length bs)) (Some (take len bs, drop len bs)) None e) ∙ h in let z : ◌≡◌ {A = ℕ} 0 1 = cc in absurd (omega arith)

pub cut_none : (n : ℕ) (bs : List ℕ) → cut_label bs ≡ None → cut_labels (suc n) bs ≡ None
unfolding cut_labels
cut_none n [] h = refl
cut_none n (len ∷ bs) h = go (leb len (length bs)) refl
  where
    go : (b : Bool) → leb len (length bs) ≡ b → cond (leb len (length bs)) (behind (take len bs ∷ []) (cut_labels n (drop len bs))) None ≡ None
    go true e = let s = sym (cond-true (leb len (length bs)) (Some (take len bs, drop len bs)) None e) ∙ h in let z : ◌≡◌ {A = ℕ} 0 1 = cc in absurd (omega arith)
    go false e = cond-false (leb len (length bs)) (behind (take len bs ∷ []) (cut_labels n (drop len bs))) None e

behind_more : (ls : List (List ℕ)) (l : List ℕ) (o : Option (List (List ℕ) × List ℕ)) → behind ls (behind (l ∷ []) o) ≡ behind (ls ++ l ∷ []) o
behind_more ls l None = refl
behind_more ls l (Some p) = ap (λ x. Some (x, p.1)) (sym (append_assoc ls (l ∷ []) p.0))

-- ---- the loop: of n labels in bs, k are still to be cut from rest; of those before, the name was made, if they make one

pub record Cutting (n : ℕ) (bs : List ℕ) (made : Result (List (List ℕ)) Fault) (k : ℕ) (rest : List ℕ) : Type 0 where
  pub cut : List (List ℕ)
  pub whole : cut_labels n bs ≡ behind cut (cut_labels k rest)
  pub named : made ≡ name_of cut

pub none_cut : (n : ℕ) (bs : List ℕ) (made : Result (List (List ℕ)) Fault) → made ≡ Ok [] → Cutting n bs made n bs
unfolding proper written
none_cut n bs made h = record { cut = []; whole = sym (at_front (cut_labels n bs)); named = h }
  where
    at_front : (o : Option (List (List ℕ) × List ℕ)) → behind [] o ≡ o
    at_front None = refl
    at_front (Some p) = refl

improper : (ls ms : List (List ℕ)) → proper ls ≡ false → proper (ls ++ ms) ≡ false
improper ls ms h = go (proper (ls ++ ms)) refl
  where
    go : (b : Bool) → proper (ls ++ ms) ≡ b → proper (ls ++ ms) ≡ false
    go true e = absurd (true≢false (sym (proper_front ls ms e) ∙ h))
    go false e = e

one_named : (ls : List (List ℕ)) (l : List ℕ) → one_more (name_of ls) l ≡ name_of (ls ++ l ∷ [])
one_named ls l = go (proper ls) refl
  where
    go : (b : Bool) → proper ls ≡ b → one_more (name_of ls) l ≡ name_of (ls ++ l ∷ [])
    go true e = ap (λ b. one_more (cond b (Ok ls) (Err BadName)) l) e
    go false e = ap (λ b. one_more (cond b (Ok ls) (Err BadName)) l) e ∙ sym (cond-false (proper (ls ++ l ∷ [])) (Ok (ls ++ l ∷ [])) (Err BadName) (improper ls (l ∷ []) e))

pub one_cut : (n : ℕ) (bs : List ℕ) (made next : Result (List (List ℕ)) Fault) (k : ℕ) (rest l after : List ℕ) → Cutting n bs made k rest → 0 < k → cut_label rest ≡ Some (l, after) → next ≡ one_more made l → Cutting n bs next (k - 1) after
one_cut n bs made next k rest l after c pos h e =
    record {
      cut = c.cut ++ l ∷ [];
      whole = c.whole ∙ ap (λ j. behind c.cut (cut_labels j rest)) less ∙ ap (behind c.cut) (cut_one (k - 1) rest l after h) ∙ behind_more c.cut l (cut_labels (k - 1) after);
      named = e ∙ ap (λ r. one_more r l) c.named ∙ one_named c.cut l;
    }
  where
    less : k ≡ suc (k - 1)
    less = omega arith

-- ---- what the loop finds

read_first : (n : ℕ) (bs : List ℕ) (o : Option (List (List ℕ) × List ℕ)) → cut_labels n bs ≡ o → read_wire (n ∷ bs) ≡ judged o
unfolding read_wire
read_first n bs o h = ap judged h

pub cut_short : (n : ℕ) (bs : List ℕ) (made : Result (List (List ℕ)) Fault) (k : ℕ) (rest : List ℕ) → Cutting n bs made k rest → 0 < k → cut_label rest ≡ None → read_wire (n ∷ bs) ≡ Err Malformed
cut_short n bs made k rest c pos h =
    let e : k ≡ suc (k - 1) = omega arith in
    read_first n bs None (c.whole ∙ ap (behind c.cut) (ap (λ j. cut_labels j rest) e ∙ cut_none (k - 1) rest h))

-- the name, with what follows it
abbrev with_rest : List ℕ → Result (List (List ℕ)) Fault → Result (List (List ℕ) × List ℕ) Fault
with_rest rest (Ok ls) = Ok (ls, rest)
with_rest rest (Err f) = Err f

all_cut : (n : ℕ) (bs : List ℕ) (made : Result (List (List ℕ)) Fault) (k : ℕ) (rest : List ℕ) (c : Cutting n bs made k rest) → k ≡ 0 → read_wire (n ∷ bs) ≡ with_rest rest made
unfolding cut_labels
all_cut n bs made k rest c z =
    read_first n bs (Some (c.cut, rest)) (c.whole ∙ ap (λ j. behind c.cut (cut_labels j rest)) z ∙ ap (λ x. Some (x, rest)) (append-nil c.cut))
    ∙ told (proper c.cut)
    ∙ ap (with_rest rest) (sym c.named)
  where
    told : (b : Bool) → cond b (Ok (c.cut, rest)) (Err BadName) ≡ with_rest rest (cond b (Ok c.cut) (Err BadName))
    told true = refl
    told false = refl

pub cut_bad : (n : ℕ) (bs : List ℕ) (made : Result (List (List ℕ)) Fault) (k : ℕ) (rest : List ℕ) (f : Fault) → Cutting n bs made k rest → k ≡ 0 → made ≡ Err f → read_wire (n ∷ bs) ≡ Err f
cut_bad n bs made k rest f c z e = all_cut n bs made k rest c z ∙ ap (with_rest rest) e

pub cut_good : (n : ℕ) (bs : List ℕ) (made : Result (List (List ℕ)) Fault) (k : ℕ) (rest : List ℕ) (ls : List (List ℕ)) → Cutting n bs made k rest → k ≡ 0 → made ≡ Ok ls → read_wire (n ∷ bs) ≡ Ok (ls, rest)
cut_good n bs made k rest ls c z e = all_cut n bs made k rest c z ∙ ap (with_rest rest) e

pub read_empty : (bs : List ℕ) → length bs ≡ 0 → read_wire bs ≡ Err Malformed
unfolding read_wire
read_empty [] h = refl
read_empty (b ∷ bs) h = absurd (omega arith)

-- ---- the round trip

pub labels_back : (ls : List (List ℕ)) (rest : List ℕ) → cut_labels (length ls) (wire_labels ls ++ rest) ≡ Some (ls, rest)
unfolding cut_labels wire_labels
labels_back [] rest = refl
labels_back (l ∷ ls) rest =
    let bs = (l ++ wire_labels ls) ++ rest in
    let e : bs ≡ l ++ (wire_labels ls ++ rest) = append_assoc l (wire_labels ls) rest in
    let n = length-append l (wire_labels ls ++ rest) in
    let m = ap length e in
    cut_one (length ls) (length l ∷ bs) l (wire_labels ls ++ rest)
    (cut_some (length l) bs (omega arith) ∙ (λ i. Some (take (length l) (e i), drop (length l) (e i))) ∙ (λ i. Some (take_at l (wire_labels ls ++ rest) (length l) refl i, drop_at l (wire_labels ls ++ rest) (length l) refl i)))
    ∙ ap (behind (l ∷ [])) (labels_back ls rest)

reads_wire : (ls : List (List ℕ)) (rest : List ℕ) → proper ls ≡ true → read_wire (wire ls ++ rest) ≡ Ok (ls, rest)
unfolding wire
reads_wire ls rest h =
    read_first (length ls) (wire_labels ls ++ rest) (Some (ls, rest)) (labels_back ls rest) ∙ cond-true (proper ls) (Ok (ls, rest)) (Err BadName) h

-- what was cut, put together again
pub cut_back : (n : ℕ) (bs : List ℕ) (ls : List (List ℕ)) (rest : List ℕ) → cut_labels n bs ≡ Some (ls, rest) → (length ls ≡ n) × (wire_labels ls ++ rest ≡ bs)
unfolding cut_labels wire_labels
cut_back zero bs ls rest h =
    let m : ([], bs) ≡ (ls, rest) = some_so ([], bs) (ls, rest) h in
    let p : [] ≡ ls = ap (λ (x : List (List ℕ) × List ℕ). x.0) m in
    let q : bs ≡ rest = ap (λ (x : List (List ℕ) × List ℕ). x.1) m in
    (ap length (sym p), (λ i. wire_labels (sym p i) ++ sym q i))
cut_back (suc n) [] ls rest h = let z : ◌≡◌ {A = ℕ} 0 1 = cc in absurd (omega arith)
cut_back (suc n) (len ∷ bs) ls rest h = go (leb len (length bs)) refl (cut_labels n (drop len bs)) (cut_back n (drop len bs)) refl
  where
    go : (b : Bool) → leb len (length bs) ≡ b → (o : Option (List (List ℕ) × List ℕ)) → ((ms : List (List ℕ)) (r : List ℕ) → o ≡ Some (ms, r) → (length ms ≡ n) × (wire_labels ms ++ r ≡ drop len bs)) → cut_labels n (drop len bs) ≡ o → (length ls ≡ suc n) × (wire_labels ls ++ rest ≡ len ∷ bs)
    go false e o f w = let s = sym (cond-false (leb len (length bs)) (behind (take len bs ∷ []) (cut_labels n (drop len bs))) None e) ∙ h in let z : ◌≡◌ {A = ℕ} 0 1 = cc in absurd (omega arith)
    go true e None f w =
        let s = sym (cond-true (leb len (length bs)) (behind (take len bs ∷ []) (cut_labels n (drop len bs))) None e) ∙ h in
        let t : ◌≡◌ {A = Option (List (List ℕ) × List ℕ)} None (Some (ls, rest)) = ap (behind (take len bs ∷ [])) (sym w) ∙ s in
        let z : ◌≡◌ {A = ℕ} 0 1 = cc in absurd (omega arith)
    go true e (Some p) f w =
        let s = sym (cond-true (leb len (length bs)) (behind (take len bs ∷ []) (cut_labels n (drop len bs))) None e) ∙ h in
        let t : Some (take len bs ∷ p.0, p.1) ≡ Some (ls, rest) = ap (behind (take len bs ∷ [])) (sym w) ∙ s in
        let m : (take len bs ∷ p.0, p.1) ≡ (ls, rest) = some_so (take len bs ∷ p.0, p.1) (ls, rest) t in
        let a : take len bs ∷ p.0 ≡ ls = ap (λ (x : List (List ℕ) × List ℕ). x.0) m in
        let b : p.1 ≡ rest = ap (λ (x : List (List ℕ) × List ℕ). x.1) m in
        let g = f p.0 p.1 refl in
        let fits = leb-true len (length bs) e in
        let size : length (take len bs) ≡ len = length-take-le len bs fits in (
          ap length (sym a) ∙ ap suc g.0,
          (λ i. wire_labels (sym a i) ++ sym b i) ∙ (λ i. size i ∷ append_assoc (take len bs) (wire_labels p.0) p.1 i) ∙ ap (λ x. len ∷ (take len bs ++ x)) g.1 ∙ ap (λ x. len ∷ x) (take-append-drop len bs),
        )

wire_read : (bs : List ℕ) (ls : List (List ℕ)) (rest : List ℕ) → read_wire bs ≡ Ok (ls, rest) → wire ls ++ rest ≡ bs
unfolding read_wire wire
wire_read [] ls rest h = let z : ◌≡◌ {A = ℕ} 0 1 = cc in absurd (omega arith)
wire_read (n ∷ bs) ls rest h = go (cut_labels n bs) refl
  where
    so : (p : List (List ℕ) × List ℕ) (b : Bool) → proper p.0 ≡ b → cond (proper p.0) (Ok p) (Err BadName) ≡ Ok (ls, rest) → p ≡ (ls, rest)
    so p true e f = let q = sym (cond-true (proper p.0) (Ok p) (Err BadName) e) ∙ f in cc
    so p false e f = let q = sym (cond-false (proper p.0) (Ok p) (Err BadName) e) ∙ f in let z : ◌≡◌ {A = ℕ} 0 1 = cc in absurd (omega arith)

    go : (o : Option (List (List ℕ) × List ℕ)) → cut_labels n bs ≡ o → wire ls ++ rest ≡ n ∷ bs
    go None e = let q : ◌≡◌ {A = Result (List (List ℕ) × List ℕ) Fault} (Err Malformed) (Ok (ls, rest)) = ap judged (sym e) ∙ h in let z : ◌≡◌ {A = ℕ} 0 1 = cc in absurd (omega arith)
    go (Some p) e =
        let f : p ≡ (ls, rest) = so p (proper p.0) refl (ap judged (sym e) ∙ h) in
        let g = cut_back n bs ls rest (e ∙ ap Some f) in
        λ i. g.0 i ∷ g.1 i

pub wire_laws : WireLaws
wire_laws = record { reads_wire = reads_wire; wire_read = wire_read }
