-- The order of names: laws.
use Rattle.std.proofs.Common.{◌≡◌, ℕ, ◌<◌, true, ◌⊎◌, List, [], ◌∷◌, ◌++◌, length, drop, Ordering, Less, Equal, Greater, sym, refl, ap, ◌∙◌, subst, inl, inr, true≢false}
use Rattle.std.specs.Cmp.{IsTotalOrder, nat_cmp_total, ranks}
use Rattle.std.specs.Cmp.Lexicographic.{slice_cmp, lists_total}
use Rattle.std.specs.Ordering.{is_le, is_lt, is_gt, ordering_reverse, ordering_then, MatchOrdering, nat_cmp}
use Rattle.std.proofs.lemmas.List.{drop_at}
use Rattle.std.proofs.lemmas.Bool.{and_parts, and_from}
use Rattle.names.specs.Order.{same_label, label_order, within, order, NotAfter, OrderLaws}
use Rattle.names.specs.Comparing.{names_total}
use Rattle.names.proofs.Within.{same_label_lem, within_front, names_told}

-- ---- for any total order

module _ {K : Type 0} {R : K → K → Ordering} (o : IsTotalOrder R) where
  own : (r : Ordering) → r ≡ ordering_reverse r → r ≡ Equal
  own Less h = absurd (true≢false (ap is_lt h))
  own Equal h = refl
  own Greater h = absurd (true≢false (ap is_gt h))

  pub itself : (x : K) → R x x ≡ Equal
  itself x = own (R x x) (o.antisymm x x)

  one_of : (r : Ordering) → (is_le r ≡ true) ⊎ (is_le (ordering_reverse r) ≡ true)
  one_of Less = inl refl
  one_of Equal = inl refl
  one_of Greater = inr refl

  either_way : (x y : K) → (is_le (R x y) ≡ true) ⊎ (is_le (R y x) ≡ true)
  either_way x y = subst (λ r. (is_le (R x y) ≡ true) ⊎ (is_le r ≡ true)) (sym (o.antisymm y x)) (one_of (R x y))

  onward : (x y z : K) (r s : Ordering) → R x y ≡ r → R y z ≡ s → is_le r ≡ true → is_le s ≡ true → is_le (R x z) ≡ true
  onward x y z Less Less p q h k = ap is_le (o.trans x y z p q)
  onward x y z Less Equal p q h k = ap is_le (sym (swap_right x y z q) ∙ p)
    where
      -- what is level with y stands to x as y does
      swap_right : (x y z : K) → R y z ≡ Equal → R x y ≡ R x z
      swap_right x y z q = o.antisymm x y ∙ ap ordering_reverse (o.congr y z x q) ∙ sym (o.antisymm x z)
  onward x y z Equal s p q h k = ap is_le (o.congr x y z p ∙ q) ∙ k
  onward x y z Greater s p q h k = absurd (true≢false (sym h))
  onward x y z Less Greater p q h k = absurd (true≢false (sym k))

  both_le : (r : Ordering) → is_le r ≡ true → is_le (ordering_reverse r) ≡ true → r ≡ Equal
  both_le Less h k = absurd (true≢false (sym k))
  both_le Equal h k = refl
  both_le Greater h k = absurd (true≢false (sym h))

  level : (x y : K) → is_le (R x y) ≡ true → is_le (R y x) ≡ true → R x y ≡ Equal
  level x y h k = both_le (R x y) h (ap is_le (sym (o.antisymm y x)) ∙ k)

  -- where the order tells all elements apart, so does the order of lists
  step_equal : (x y : K) (xs ys : List K) (r : Ordering) → ((a b : K) → R a b ≡ Equal → a ≡ b) → R x y ≡ r → (slice_cmp R xs ys ≡ Equal → xs ≡ ys) → ordering_then r (slice_cmp R xs ys) ≡ Equal → x ∷ xs ≡ y ∷ ys
  step_equal x y xs ys Less tight e f h = absurd (true≢false (ap is_lt h))
  step_equal x y xs ys Equal tight e f h = λ i. tight x y e i ∷ f h i
  step_equal x y xs ys Greater tight e f h = absurd (true≢false (ap is_gt h))

  lex_equal : ((x y : K) → R x y ≡ Equal → x ≡ y) → (xs ys : List K) → slice_cmp R xs ys ≡ Equal → xs ≡ ys
  lex_equal tight [] [] h = refl
  lex_equal tight [] (y ∷ ys) h = absurd (true≢false (ap is_lt h))
  lex_equal tight (x ∷ xs) [] h = absurd (true≢false (ap is_gt h))
  lex_equal tight (x ∷ xs) (y ∷ ys) h = step_equal x y xs ys (R x y) tight refl (lex_equal tight xs ys) h

numbers_equal : (x y : ℕ) → nat_cmp x y ≡ Equal → x ≡ y
numbers_equal x y h = subst (λ r. MatchOrdering r (x < y) (x ≡ y) (y < x)) h (ranks x y)

pub labels_equal : (l m : List ℕ) → label_order l m ≡ Equal → l ≡ m
labels_equal = lex_equal nat_cmp_total numbers_equal

pub order_equal : (a b : List (List ℕ)) → order a b ≡ Equal → a ≡ b
unfolding order
order_equal = lex_equal (lists_total nat_cmp_total) labels_equal

pub order_itself : (a : List (List ℕ)) → order a a ≡ Equal
unfolding order
order_itself = itself (lists_total (lists_total nat_cmp_total))

order_total : (a b : List (List ℕ)) → NotAfter a b ⊎ NotAfter b a
unfolding order
order_total = either_way (lists_total (lists_total nat_cmp_total))

order_transitive : (a b c : List (List ℕ)) → NotAfter a b → NotAfter b c → NotAfter a c
unfolding order
order_transitive a b c h k = onward (lists_total (lists_total nat_cmp_total)) a b c (order a b) (order b c) refl refl h k

order_antisymmetric : (a b : List (List ℕ)) → NotAfter a b → NotAfter b a → a ≡ b
unfolding order
order_antisymmetric a b h k = order_equal a b (level (lists_total (lists_total nat_cmp_total)) a b h k)

-- ---- the names within a name stand in one row

front_first : (q rest : List (List ℕ)) → NotAfter q (q ++ rest)
unfolding order
front_first [] [] = refl
front_first [] (m ∷ rest) = refl
front_first (l ∷ q) rest = ap (λ r. is_le (ordering_then r (order q (q ++ rest)))) (itself (lists_total nat_cmp_total) l) ∙ front_first q rest

order_above_first : (q n : List (List ℕ)) → within q n ≡ true → NotAfter q n
order_above_first q n h =
    let r = within_front q n h in
    subst (NotAfter q) (sym r.1) (front_first q r.0)

-- l and m are first labels, m between l and l; then m is l
first_between : (l m : List ℕ) (r s t : Ordering) → label_order l m ≡ r → is_le (ordering_then r s) ≡ true → is_le (ordering_then (label_order m l) t) ≡ true → r ≡ Equal
first_between l m Less s t e h k = absurd (true≢false (sym (ap (λ r. is_le (ordering_then r t)) (sym ((lists_total nat_cmp_total).antisymm m l ∙ ap ordering_reverse e)) ∙ k)))
first_between l m Equal s t e h k = refl
first_between l m Greater s t e h k = absurd (true≢false (sym h))

order_between : (q m n : List (List ℕ)) → NotAfter q m → NotAfter m n → within q n ≡ true → within q m ≡ true
unfolding order within
order_between [] m n h k w = refl
order_between (l ∷ q) [] n h k w = absurd (true≢false (sym h))
order_between (l ∷ q) (m ∷ ms) [] h k w = absurd (true≢false (sym w))
order_between (l ∷ q) (m ∷ ms) (p ∷ ps) h k w =
    let a = and_parts (same_label l p) (within q ps) w in
    let e : p ≡ l = sym (same_label_lem l p a.0) in
    let k' : is_le (ordering_then (label_order m l) (order ms ps)) ≡ true = subst (λ x. is_le (ordering_then (label_order m x) (order ms ps)) ≡ true) e k in
    let f : label_order l m ≡ Equal = first_between l m (label_order l m) (order q ms) (order ms ps) refl h k' in
    let g : l ≡ m = labels_equal l m f in
    let b : label_order m l ≡ Equal = (lists_total nat_cmp_total).antisymm m l ∙ ap ordering_reverse f in
    and_from (same_label l m) (within q ms) (subst (λ x. same_label l x ≡ true) (e ∙ g) a.0)
    (order_between q ms ps (ap (λ r. is_le (ordering_then r (order q ms))) (sym f) ∙ h) (ap (λ r. is_le (ordering_then r (order ms ps))) (sym b) ∙ k') a.1)

pub order_laws : OrderLaws
order_laws = record {
  total = order_total;
  transitive = order_transitive;
  antisymmetric = order_antisymmetric;
  told = names_told;
  equal = λ a b. (order_equal a b, λ e. subst (λ c. order a c ≡ Equal) e (order_itself a));
  above_first = order_above_first;
  between = order_between;
}

-- ---- as it is found out

-- names that share their first labels stand to each other as what is left of them
order_front : (a r s : List (List ℕ)) → order (a ++ r) (a ++ s) ≡ order r s
unfolding order
order_front [] r s = refl
order_front (l ∷ a) r s = ap (λ x. ordering_then x (order (a ++ r) (a ++ s))) (itself (lists_total nat_cmp_total) l) ∙ order_front a r s

pub order_below : (a x y : List (List ℕ)) → within a x ≡ true → within a y ≡ true → order (drop (length a) x) (drop (length a) y) ≡ order x y
order_below a x y h k =
    let p = within_front a x h in
    let q = within_front a y k in
    (λ i. order (left a p.0 x p.1 i) (left a q.0 y q.1 i)) ∙ sym (order_front a p.0 q.0) ∙ (λ i. order (sym p.1 i) (sym q.1 i))
  where
    left : (a r x : List (List ℕ)) → x ≡ a ++ r → drop (length a) x ≡ r
    left a r x e = ap (drop (length a)) e ∙ drop_at a r (length a) refl

-- ---- as an order of keys

pub order_flip : (a b : List (List ℕ)) → order a b ≡ ordering_reverse (order b a)
order_flip = names_total.antisymm

pub order_trans : (a b c : List (List ℕ)) → order a b ≡ Less → order b c ≡ Less → order a c ≡ Less
order_trans = names_total.trans

pub order_alike : (a b c : List (List ℕ)) → order a b ≡ Equal → order a c ≡ order b c
order_alike = names_total.congr
