-- Pieces taken from their list one by one.
use Rattle.std.proofs.Common.{◌≡◌, ℕ, suc, ◌+◌, ◌<◌, ◌≤◌, Bool, true, false, ◌&&◌, eqb, leb, List, [], ◌∷◌, ◌++◌, length, take, drop, get_or, map, Some, None, Option, sym, refl, ap, ◌∙◌, append_assoc, append-nil, arith, length-append}
use Rattle.std.specs.List.{between}
use Rattle.std.proofs.lemmas.Slice.{first_rest}
use Rattle.std.proofs.lemmas.List.{take_at, drop_at, length-drop, take_more, take_all, map-append}
use Rattle.std.proofs.lemmas.Bool.{cond-true, cond-false, le-leb, eq-eqb, and_from, and_parts, ne_eqb}
use Rattle.names.specs.Wire.{wire_labels, wire, cut_label}
use Rattle.wire.specs.Parts.{are_addresses}

some_so : {A : Type 0} (x y : A) → Some x ≡ Some y → x ≡ y
some_so x y h = cc

-- the parts of a pair that was found
pub same_pair : {A B : Type 0} (a c : A) (b d : B) → ◌≡◌ {A = Option (A × B)} (Some (a, b)) (Some (c, d)) → (a ≡ c) × (b ≡ d)
same_pair {A} {B} a c b d h =
    let p : A × B = (a, b) in
    let q : A × B = (c, d) in
    let m : p ≡ q = some_so p q h in
    (ap (λ (x : A × B). x.0) m, ap (λ (x : A × B). x.1) m)

-- the piece at the front of those that are left
cut_first : (l : List ℕ) (more : List (List ℕ)) → cut_label (wire_labels (l ∷ more)) ≡ Some (l, wire_labels more)
unfolding wire_labels
cut_first l more =
    let bs = l ++ wire_labels more in
    let n = length-append l (wire_labels more) in
    cond-true (leb (length l) (length bs)) (Some (take (length l) bs, drop (length l) bs)) None (le-leb (length l) (length bs) (omega arith))
    ∙ (λ i. Some (take_at l (wire_labels more) (length l) refl i, drop_at l (wire_labels more) (length l) refl i))

cut_end : cut_label (wire_labels []) ≡ None
unfolding wire_labels
cut_end = refl

pub cut_shorter : (bs l after : List ℕ) → cut_label bs ≡ Some (l, after) → length after < length bs
cut_shorter [] l after h = cc
cut_shorter (n ∷ bs) l after h = go (leb n (length bs)) refl
  where
    go : (c : Bool) → leb n (length bs) ≡ c → length after < suc (length bs)
    go true e =
        let s = same_pair (take n bs) l (drop n bs) after (sym (cond-true (leb n (length bs)) (Some (take n bs, drop n bs)) None e) ∙ h) in
        let a = ap length s.1 in
        let d = length-drop n bs in
        omega arith
    go false e =
        let s : ◌≡◌ {A = Option (List ℕ × List ℕ)} None (Some (l, after)) = sym (cond-false (leb n (length bs)) (Some (take n bs, drop n bs)) None e) ∙ h in
        cc

-- of the pieces of a list some are done, and the bytes of the others are left
pub record Copying (ps done : List (List ℕ)) (rest : List ℕ) : Type 0 where
  pub left : List (List ℕ)
  pub parted : ps ≡ done ++ left
  pub so : rest ≡ wire_labels left

behind_count : (n : ℕ) (bs : List ℕ) (ps : List (List ℕ)) → n ∷ bs ≡ wire ps → bs ≡ wire_labels ps
unfolding wire
behind_count n bs ps h = ap (drop 1) h

pub none_copied : (list : List ℕ) (ps : List (List ℕ)) → 0 < length list → list ≡ wire ps → Copying ps [] (between 1 (length list) list)
none_copied list ps some h = record { left = ps; parted = refl; so = behind_count (get_or list 0 0) (between 1 (length list) list) ps (sym (first_rest list 0 some) ∙ h) }

pub one_copied : (ps done : List (List ℕ)) (rest l after : List ℕ) → Copying ps done rest → cut_label rest ≡ Some (l, after) → Copying ps (done ++ l ∷ []) after
one_copied ps done rest l after c h = go c.left c.parted (ap cut_label (sym c.so) ∙ h)
  where
    go : (left : List (List ℕ)) → ps ≡ done ++ left → cut_label (wire_labels left) ≡ Some (l, after) → Copying ps (done ++ l ∷ []) after
    go [] p k = let z : ◌≡◌ {A = Option (List ℕ × List ℕ)} None (Some (l, after)) = sym cut_end ∙ k in cc
    go (x ∷ more) p k =
        let s = same_pair x l (wire_labels more) after (sym (cut_first x more) ∙ k) in
        record { left = more; parted = p ∙ ap (λ y. done ++ y ∷ more) s.0 ∙ sym (append_assoc done (l ∷ []) more); so = sym s.1 }

-- the first of those that are left, and the others
pub first_left : (left : List (List ℕ)) (rest l after : List ℕ) → rest ≡ wire_labels left → cut_label rest ≡ Some (l, after) → (more : List (List ℕ)) × (left ≡ l ∷ more) × (after ≡ wire_labels more)
first_left [] rest l after e h = let z : ◌≡◌ {A = Option (List ℕ × List ℕ)} None (Some (l, after)) = sym cut_end ∙ (ap cut_label (sym e) ∙ h) in cc
first_left (x ∷ more) rest l after e h =
    let s = same_pair x l (wire_labels more) after (sym (cut_first x more) ∙ (ap cut_label (sym e) ∙ h)) in
    (more, ap (λ y. y ∷ more) s.0, sym s.1)

pub none_left : (left : List (List ℕ)) (rest : List ℕ) → rest ≡ wire_labels left → cut_label rest ≡ None → left ≡ []
none_left [] rest e h = refl
none_left (x ∷ more) rest e h = let z : ◌≡◌ {A = Option (List ℕ × List ℕ)} (Some (x, wire_labels more)) None = sym (cut_first x more) ∙ (ap cut_label (sym e) ∙ h) in cc

pub all_copied : (ps done : List (List ℕ)) (rest : List ℕ) → Copying ps done rest → cut_label rest ≡ None → ps ≡ done
all_copied ps done rest c h = go c.left c.parted (ap cut_label (sym c.so) ∙ h)
  where
    go : (left : List (List ℕ)) → ps ≡ done ++ left → cut_label (wire_labels left) ≡ None → ps ≡ done
    go [] p k = p ∙ append-nil done
    go (x ∷ more) p k = let s : ◌≡◌ {A = Option (List ℕ × List ℕ)} (Some (x, wire_labels more)) None = sym (cut_first x more) ∙ k in cc

no_count : (ps : List (List ℕ)) → 0 < length (wire ps)
unfolding wire
no_count ps = omega arith

-- a list has a number of pieces
pub never_empty : (list : List ℕ) (ps : List (List ℕ)) → length list ≡ 0 → list ≡ wire ps → ⊥
never_empty list ps e h = let n = no_count ps in let l = ap length h in omega arith

-- only the list without pieces is its number alone
pub alone : (list : List ℕ) (ps : List (List ℕ)) → list ≡ wire ps → eqb (length list) 1 ≡ eqb (length ps) 0
unfolding wire wire_labels
alone list [] h = let l : length list ≡ 1 = ap length h in eq-eqb (length list) 1 l ∙ sym (eq-eqb 0 0 refl)
alone list (p ∷ ps) h =
    let l : length list ≡ length (length (p ∷ ps) ∷ length p ∷ (p ++ wire_labels ps)) = ap length h in
    ne_eqb (length list) 1 (λ e. omega arith) ∙ sym (ne_eqb (length (p ∷ ps)) 0 (λ e. omega arith))

-- ---- addresses

pub some_addresses : (ps qs : List (List ℕ)) → are_addresses ps ≡ true → are_addresses (ps ++ qs) ≡ are_addresses qs
some_addresses [] qs h = refl
some_addresses (p ∷ ps) qs h =
    let q = and_parts (eqb (length p) 8) (are_addresses ps) h in
    ap (λ b. b && are_addresses (ps ++ qs)) q.0 ∙ some_addresses ps qs q.1

pub one_address : (ps : List (List ℕ)) (p : List ℕ) → are_addresses ps ≡ true → length p ≡ 8 → are_addresses (ps ++ p ∷ []) ≡ true
one_address ps p h e = some_addresses ps (p ∷ []) h ∙ and_from (eqb (length p) 8) true (eq-eqb (length p) 8 e) refl

-- the items of a slice, those before i looked at
module _ {X : Type 0} (bytes : X → List ℕ) (xs : List X) where
  abbrev pub Sound : ℕ → Type 0
  Sound i = are_addresses (map bytes (take i xs)) ≡ true

  pub one_sound : (i : ℕ) (x : X) → Sound i → i < length xs → x ≡ get_or xs i x → length (bytes x) ≡ 8 → Sound (i + 1)
  one_sound i x s l e n =
      ap (λ ys. are_addresses (map bytes ys)) (take_more xs i x l ∙ ap (λ y. take i xs ++ y ∷ []) (sym e))
      ∙ ap are_addresses (map-append bytes (take i xs) (x ∷ [])) ∙ one_address (map bytes (take i xs)) (bytes x) s n

  pub all_sound : (i : ℕ) → Sound i → length xs ≤ i → are_addresses (map bytes xs) ≡ true
  all_sound i s l = ap (λ ys. are_addresses (map bytes ys)) (sym (take_all i xs l)) ∙ s

no_address : (p : List ℕ) (ps : List (List ℕ)) → (length p ≡ 8 → ⊥) → are_addresses (p ∷ ps) ≡ false
no_address p ps h = ap (λ b. b && are_addresses ps) (ne_eqb (length p) 8 h)

pub bad_address : (ps done : List (List ℕ)) (rest l after : List ℕ) → Copying ps done rest → are_addresses done ≡ true → cut_label rest ≡ Some (l, after) → (length l ≡ 8 → ⊥) → are_addresses ps ≡ false
bad_address ps done rest l after c good h bad =
    let d = one_copied ps done rest l after c h in
    ap are_addresses (d.parted ∙ append_assoc done (l ∷ []) d.left) ∙ some_addresses done (l ∷ d.left) good ∙ no_address l d.left bad
