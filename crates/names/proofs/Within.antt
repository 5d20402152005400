-- When one name lies within another: laws, and the step of the loop that finds out.
use Rattle.std.proofs.Common.{◌≡◌, ℕ, nat_eq, ◌+◌, ◌<◌, ◌≤◌, Bool, true, false, ◌&&◌, ◌⊎◌, List, [], ◌∷◌, ◌++◌, length, Decides, get_or, take, drop, sym, refl, ap, ◌∙◌, inl, inr, ⊎_elim, true≢false, arith}
use Rattle.std.specs.Cmp.{nat_eq_equiv}
use Rattle.std.specs.Cmp.Lexicographic.{pointwise, pointwise_decides, bytes_decides, lists_equiv, nat_list_eq_equiv}
use Rattle.std.proofs.lemmas.List.{drop_more, drop_all}
use Rattle.std.proofs.lemmas.Bool.{and_parts, and_from}
use Rattle.names.specs.Order.{same_label, within, WithinLaws}

pub same_label_lem : (l m : List ℕ) → same_label l m ≡ true → l ≡ m
same_label_lem l m = (bytes_decides l m).0

pub label_same : (l m : List ℕ) → l ≡ m → same_label l m ≡ true
label_same l m = (bytes_decides l m).1

pub within_front : (q n : List (List ℕ)) → within q n ≡ true → (rest : List (List ℕ)) × (n ≡ q ++ rest)
unfolding within
within_front [] n h = (n, refl)
within_front (l ∷ q) [] h = absurd (true≢false (sym h))
within_front (l ∷ q) (m ∷ n) h =
    let p = and_parts (same_label l m) (within q n) h in
    let r = within_front q n p.1 in
    (r.0, λ i. sym (same_label_lem l m p.0) i ∷ r.1 i)

pub within_extends : (q rest : List (List ℕ)) → within q (q ++ rest) ≡ true
unfolding within
within_extends [] rest = refl
within_extends (l ∷ q) rest = and_from (same_label l l) (within q (q ++ rest)) (label_same l l refl) (within_extends q rest)

pub within_itself : (q : List (List ℕ)) → within q q ≡ true
unfolding within
within_itself [] = refl
within_itself (l ∷ q) = and_from (same_label l l) (within q q) (label_same l l refl) (within_itself q)

within_transitive : (p q n : List (List ℕ)) → within p q ≡ true → within q n ≡ true → within p n ≡ true
unfolding within
within_transitive [] q n h k = refl
within_transitive (l ∷ p) [] n h k = absurd (true≢false (sym h))
within_transitive (l ∷ p) (m ∷ q) [] h k = absurd (true≢false (sym k))
within_transitive (l ∷ p) (m ∷ q) (o ∷ n) h k =
    let a = and_parts (same_label l m) (within p q) h in
    let b = and_parts (same_label m o) (within q n) k in
    and_from (same_label l o) (within p n) (label_same l o (same_label_lem l m a.0 ∙ same_label_lem m o b.0)) (within_transitive p q n a.1 b.1)

within_nested : (p q n : List (List ℕ)) → within p n ≡ true → within q n ≡ true → (within p q ≡ true) ⊎ (within q p ≡ true)
unfolding within
within_nested [] q n h k = inl refl
within_nested (l ∷ p) [] n h k = inr refl
within_nested (l ∷ p) (m ∷ q) [] h k = absurd (true≢false (sym h))
within_nested (l ∷ p) (m ∷ q) (o ∷ n) h k =
    let a = and_parts (same_label l o) (within p n) h in
    let b = and_parts (same_label m o) (within q n) k in
    let e : l ≡ m = same_label_lem l o a.0 ∙ sym (same_label_lem m o b.0) in
    ⊎_elim (λ r. inl (and_from (same_label l m) (within p q) (label_same l m e) r)) (λ r. inr (and_from (same_label m l) (within q p) (label_same m l (sym e)) r)) (within_nested p q n a.1 b.1)

pub within_laws : WithinLaws
within_laws = record { front = within_front; extends = within_extends; transitive = within_transitive; nested = within_nested }

-- ---- as it is found out

-- no name lies within one with more labels
pub within_longer : (q n : List (List ℕ)) → length n < length q → within q n ≡ false
unfolding within
within_longer [] n h = absurd (omega arith)
within_longer (l ∷ q) [] h = refl
within_longer (l ∷ q) (m ∷ n) h = ap (λ b. same_label l m && b) (within_longer q n (omega arith)) ∙ and_false (same_label l m)
  where
    and_false : (b : Bool) → (b && false) ≡ false
    and_false true = refl
    and_false false = refl

-- one label on: x and y are the labels there
within_more : (q n : List (List ℕ)) (i : ℕ) → i < length q → i < length n → within (drop i q) (drop i n) ≡ (same_label (get_or q i []) (get_or n i []) && within (drop (i + 1) q) (drop (i + 1) n))
unfolding within
within_more q n i h k = λ j. within (drop_more q i [] h j) (drop_more n i [] k j)

pub within_step : (q n : List (List ℕ)) (i : ℕ) (x y : List ℕ) (b : Bool) → i < length q → i < length n → x ≡ get_or n i [] → y ≡ get_or q i [] → b ≡ same_label x y → within (drop i q) (drop i n) ≡ (b && within (drop (i + 1) q) (drop (i + 1) n))
within_step q n i x y b h k p r e =
    within_more q n i h k ∙ ap (λ c. c && within (drop (i + 1) q) (drop (i + 1) n)) (sym (e ∙ turned x y ∙ (λ j. same_label (r j) (p j))))
  where
    turned : (x y : List ℕ) → same_label x y ≡ same_label y x
    turned = (lists_equiv nat_eq_equiv).symm

pub within_all : (q n : List (List ℕ)) (i : ℕ) → length q ≤ i → within (drop i q) (drop i n) ≡ true
unfolding within
within_all q n i h = ap (λ ls. within ls (drop i n)) (drop_all i q h)

-- the upper name's labels, and as many of the other's
pub within_taken : (q n : List (List ℕ)) → within q n ≡ pointwise same_label q (take (length q) n)
unfolding within
within_taken [] n = refl
within_taken (l ∷ q) [] = refl
within_taken (l ∷ q) (m ∷ n) = ap (λ b. same_label l m && b) (within_taken q n)

-- names of one length, one within the other, are one name
pub within_level : (q n : List (List ℕ)) → within q n ≡ true → length q ≡ length n → q ≡ n
unfolding within
within_level [] [] h e = refl
within_level [] (m ∷ n) h e = absurd (omega arith)
within_level (l ∷ q) [] h e = absurd (omega arith)
within_level (l ∷ q) (m ∷ n) h e =
    let p = and_parts (same_label l m) (within q n) h in
    λ i. same_label_lem l m p.0 i ∷ within_level q n p.1 (omega arith) i

-- ---- as equality of names

-- of as many labels, a name is the same as one that it lies within
pub told_same : (a b : List (List ℕ)) → length a ≡ length b → within b a ≡ pointwise (pointwise nat_eq) a b
unfolding within
told_same [] [] e = refl
told_same [] (m ∷ b) e = absurd (omega arith)
told_same (l ∷ a) [] e = absurd (omega arith)
told_same (l ∷ a) (m ∷ b) e = λ i. nat_list_eq_equiv.symm m l i && told_same a b (omega arith) i

-- it tells which names are the same
pub names_told : (a b : List (List ℕ)) → Decides (pointwise (pointwise nat_eq) a b) (a ≡ b)
names_told = pointwise_decides bytes_decides
