-- Sets in order, and sets left out of them.
use Rattle.std.proofs.Common.{◌≡◌, ℕ, ◌<◌, ◌≤◌, true, false, not, ◌&&◌, eqb, leb, List, [], ◌∷◌, ◌++◌, length, Ordering, Less, Equal, Greater, sym, refl, ap, ◌∙◌, subst, ⊎_elim, true≢false, append-nil, arith, length-append}
use mathlib.Core.List.Memᴰ
use mathlib.Core.List.{Memᴰ}
use Rattle.std.specs.Cmp.{IsTotalOrder, nat_cmp_total, on_total, then_total, ranks}
use Rattle.std.specs.Ordering.{is_lt, ordering_then, MatchOrdering, nat_cmp, then_cmp, on}
use Rattle.std.proofs.lemmas.Bool.{and_parts, and_from, or_parts, or_from, not-true, not_from_false, eqb-true, leb-true, false_from_ne_true}
use Rattle.names.specs.Comparing.{names_total}
use Rattle.names.specs.Order.{order}
use Rattle.names.proofs.Order.{order_itself}
use Rattle.meaning.specs.Model.{Set}
use Rattle.meaning.specs.Says.{same, is_exactly}
use Rattle.meaning.proofs.Rules.{same_so}
use Rattle.zones.specs.Sorted.{is_before, sorted}
use Rattle.zones.specs.Valid.{clash, clashes, no_clash, belongs, all_belong, valid}

-- ---- one set before another

abbrev pub Before : Set → Set → Type 0
Before s t = is_before t.name t.kind s ≡ true

key_total : IsTotalOrder (then_cmp (on (λ (s : Set). s.name) order) (on (λ (s : Set). s.kind) nat_cmp))
key_total = then_total (on_total (λ (s : Set). s.name) names_total) (on_total (λ (s : Set). s.kind) nat_cmp_total)

less : (r : Ordering) → is_lt r ≡ true → r ≡ Less
less Less h = refl
less Equal h = absurd (true≢false (sym h))
less Greater h = absurd (true≢false (sym h))

before_trans : (s t u : Set) → Before s t → Before t u → Before s u
before_trans s t u h g =
    ap is_lt (key_total.trans s t u (less (ordering_then (order s.name t.name) (nat_cmp s.kind t.kind)) h) (less (ordering_then (order t.name u.name) (nat_cmp t.kind u.kind)) g))

rank_same : (k : ℕ) (r : Ordering) → MatchOrdering r (k < k) (k ≡ k) (k < k) → is_lt r ≡ false
rank_same k Less h = absurd (omega arith)
rank_same k Equal h = refl
rank_same k Greater h = refl

not_itself : (s t : Set) → Before s t → s.name ≡ t.name → s.kind ≡ t.kind → ⊥
not_itself s t h n k =
    true≢false
    (sym h
    ∙ (λ i. is_lt (ordering_then (order (n i) t.name) (nat_cmp (k i) t.kind)))
    ∙ ap (λ r. is_lt (ordering_then r (nat_cmp t.kind t.kind))) (order_itself t.name)
    ∙ rank_same t.kind (nat_cmp t.kind t.kind) (ranks t.kind t.kind))

-- so neither has the other's name and kind
pub apart : (s t : Set) → Before s t → (is_exactly s.name s.kind t ≡ false) × (is_exactly t.name t.kind s ≡ false)
apart s t h = (
  false_from_ne_true (is_exactly s.name s.kind t) (λ e. let p = and_parts (same t.name s.name) (eqb t.kind s.kind) e in not_itself s t h (sym (same_so t.name s.name p.0)) (sym (eqb-true t.kind s.kind p.1))),
  false_from_ne_true (is_exactly t.name t.kind s) (λ e. let p = and_parts (same s.name t.name) (eqb s.kind t.kind) e in not_itself s t h (same_so s.name t.name p.0) (eqb-true s.kind t.kind p.1)),
)

-- and not both stand before each other
pub not_both : (s t : Set) → Before s t → is_before s.name s.kind t ≡ false
not_both s t h = false_from_ne_true (is_before s.name s.kind t) (λ g. not_itself s s (before_trans s t s h g) refl refl)

-- ---- sorted sets

pub sorted_tail : (s : Set) (ss : List Set) → sorted (s ∷ ss) ≡ true → sorted ss ≡ true
unfolding sorted
sorted_tail s [] h = refl
sorted_tail s (t ∷ ss) h = (and_parts (is_before t.name t.kind s) (sorted (t ∷ ss)) h).1

-- the first stands before all others
pub behind : (s : Set) (ss : List Set) → sorted (s ∷ ss) ≡ true → (t : Set) → Memᴰ t ss → Before s t
unfolding sorted
behind s [] h t m = absurd (Memᴰ.not-nil m)
behind s (u ∷ ss) h t m =
    let p = and_parts (is_before u.name u.kind s) (sorted (u ∷ ss)) h in
    ⊎_elim (λ e. subst (Before s) (sym e) p.0) (λ n. before_trans s u t p.0 (behind u ss p.1 t n)) (Memᴰ.cases_cons m)

sorted_cons : (s : Set) (ss : List Set) → ((t : Set) → Memᴰ t ss → Before s t) → sorted ss ≡ true → sorted (s ∷ ss) ≡ true
unfolding sorted
sorted_cons s [] h o = refl
sorted_cons s (t ∷ ss) h o = and_from (is_before t.name t.kind s) (sorted (t ∷ ss)) (h t (Memᴰ.head refl)) o

pub across : (xs ys : List Set) → sorted (xs ++ ys) ≡ true → (s t : Set) → Memᴰ s xs → Memᴰ t ys → Before s t
across [] ys o s t m n = absurd (Memᴰ.not-nil m)
across (x ∷ xs) ys o s t m n =
    ⊎_elim
    (λ e. subst (λ y. Before y t) (sym e) (behind x (xs ++ ys) o t (Memᴰ.append_right xs n)))
    (λ k. across xs ys (sorted_tail x (xs ++ ys) o) s t k n)
    (Memᴰ.cases_cons m)

pub sorted_back : (xs ys : List Set) → sorted (xs ++ ys) ≡ true → sorted ys ≡ true
sorted_back [] ys o = o
sorted_back (x ∷ xs) ys o = sorted_back xs ys (sorted_tail x (xs ++ ys) o)

-- those in the middle left out
left_out : (xs ys zs : List Set) (t : Set) → Memᴰ t (xs ++ zs) → Memᴰ t (xs ++ (ys ++ zs))
left_out xs ys zs t m = ⊎_elim (λ a. Memᴰ.append_left (ys ++ zs) a) (λ b. Memᴰ.append_right xs (Memᴰ.append_right ys b)) (Memᴰ.append_cases xs m)

sorted_without : (xs ys zs : List Set) → sorted (xs ++ (ys ++ zs)) ≡ true → sorted (xs ++ zs) ≡ true
sorted_without [] ys zs o = sorted_back ys zs o
sorted_without (x ∷ xs) ys zs o =
    sorted_cons x (xs ++ zs) (λ t m. behind x (xs ++ (ys ++ zs)) o t (left_out xs ys zs t m)) (sorted_without xs ys zs (sorted_tail x (xs ++ (ys ++ zs)) o))

-- ---- clashes

pub clash_with : (s : Set) (ss : List Set) → clashes s ss ≡ false → (t : Set) → Memᴰ t ss → clash s t ≡ false
clash_with s [] h t m = absurd (Memᴰ.not-nil m)
clash_with s (u ∷ ss) h t m =
    let p = or_parts (clash s u) (clashes s ss) h in
    ⊎_elim (λ e. ap (clash s) e ∙ p.0) (λ n. clash_with s ss p.1 t n) (Memᴰ.cases_cons m)

pub no_clash_with : (s : Set) (ss : List Set) → ((t : Set) → Memᴰ t ss → clash s t ≡ false) → clashes s ss ≡ false
no_clash_with s [] h = refl
no_clash_with s (t ∷ ss) h = or_from (clash s t) (clashes s ss) (h t (Memᴰ.head refl)) (no_clash_with s ss (λ u m. h u (Memᴰ.tail m)))

pub clash_across : (xs ys : List Set) → no_clash (xs ++ ys) ≡ true → (s t : Set) → Memᴰ s xs → Memᴰ t ys → clash s t ≡ false
clash_across [] ys o s t m n = absurd (Memᴰ.not-nil m)
clash_across (x ∷ xs) ys o s t m n =
    let p = and_parts (not (clashes x (xs ++ ys))) (no_clash (xs ++ ys)) o in
    ⊎_elim
    (λ e. ap (λ y. clash y t) e ∙ clash_with x (xs ++ ys) (not-true (clashes x (xs ++ ys)) p.0) t (Memᴰ.append_right xs n))
    (λ k. clash_across xs ys p.1 s t k n)
    (Memᴰ.cases_cons m)

no_clash_back : (xs ys : List Set) → no_clash (xs ++ ys) ≡ true → no_clash ys ≡ true
no_clash_back [] ys o = o
no_clash_back (x ∷ xs) ys o = no_clash_back xs ys (and_parts (not (clashes x (xs ++ ys))) (no_clash (xs ++ ys)) o).1

no_clash_without : (xs ys zs : List Set) → no_clash (xs ++ (ys ++ zs)) ≡ true → no_clash (xs ++ zs) ≡ true
no_clash_without [] ys zs o = no_clash_back ys zs o
no_clash_without (x ∷ xs) ys zs o =
    let p = and_parts (not (clashes x (xs ++ (ys ++ zs)))) (no_clash (xs ++ (ys ++ zs))) o in
    and_from (not (clashes x (xs ++ zs))) (no_clash (xs ++ zs))
    (not_from_false (clashes x (xs ++ zs)) (no_clash_with x (xs ++ zs) (λ t m. clash_with x (xs ++ (ys ++ zs)) (not-true (clashes x (xs ++ (ys ++ zs))) p.0) t (left_out xs ys zs t m))))
    (no_clash_without xs ys zs p.1)

-- ---- sets that belong

pub belongs_in : (apex : List (List ℕ)) (ss : List Set) → all_belong apex ss ≡ true → (s : Set) → Memᴰ s ss → belongs apex s ≡ true
belongs_in apex [] h s m = absurd (Memᴰ.not-nil m)
belongs_in apex (t ∷ ss) h s m =
    let p = and_parts (belongs apex t) (all_belong apex ss) h in
    ⊎_elim (λ e. ap (belongs apex) e ∙ p.0) (λ n. belongs_in apex ss p.1 s n) (Memᴰ.cases_cons m)

all_belong_from : (apex : List (List ℕ)) (ss : List Set) → ((s : Set) → Memᴰ s ss → belongs apex s ≡ true) → all_belong apex ss ≡ true
all_belong_from apex [] h = refl
all_belong_from apex (s ∷ ss) h = and_from (belongs apex s) (all_belong apex ss) (h s (Memᴰ.head refl)) (all_belong_from apex ss (λ t m. h t (Memᴰ.tail m)))

-- ---- sets that a zone may have

pub record Good (apex : List (List ℕ)) (ss : List Set) : Type 0 where
  pub ordered : sorted ss ≡ true
  pub inside : all_belong apex ss ≡ true
  pub alone : no_clash ss ≡ true
  pub few : length ss ≤ 4096

pub good_from : (apex : List (List ℕ)) (ss : List Set) → sorted ss ≡ true → valid apex ss ≡ true → Good apex ss
good_from apex ss o v =
    let p = and_parts (all_belong apex ss && no_clash ss) (leb (length ss) 4096) v in
    let q = and_parts (all_belong apex ss) (no_clash ss) p.0 in
    record { ordered = o; inside = q.0; alone = q.1; few = leb-true (length ss) 4096 p.1 }

pub good_without : (apex : List (List ℕ)) (xs ys zs : List Set) → Good apex (xs ++ (ys ++ zs)) → Good apex (xs ++ zs)
good_without apex xs ys zs g =
    let few = g.few in
    let a = length-append xs (ys ++ zs) in
    let b = length-append ys zs in
    let c = length-append xs zs in
    record {
      ordered = sorted_without xs ys zs g.ordered;
      inside = all_belong_from apex (xs ++ zs) (λ s m. belongs_in apex (xs ++ (ys ++ zs)) g.inside s (left_out xs ys zs s m));
      alone = no_clash_without xs ys zs g.alone;
      few = omega arith;
    }

-- those in the middle alone
pub good_middle : (apex : List (List ℕ)) (xs ys zs : List Set) → Good apex (xs ++ (ys ++ zs)) → Good apex ys
good_middle apex xs ys zs g =
    subst (Good apex) (append-nil ys)
    (good_without apex ys zs [] (subst (λ rs. Good apex (ys ++ rs)) (sym (append-nil zs)) (good_without apex [] xs (ys ++ zs) g)))
