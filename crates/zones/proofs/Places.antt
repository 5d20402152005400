-- How many of the first elements of a list pass a test; and where a name and kind stand among sorted sets.
use Rattle.std.proofs.Common.{◌≡◌, ℕ, zero, suc, ◌<◌, ◌≤◌, Bool, true, false, cond, ◌⊎◌, List, [], ◌∷◌, map, length, get_or, Ordering, Less, Equal, Greater, sym, refl, ap, ◌∙◌, subst, inl, inr, ⊎_elim, true≢false, arith}
use mathlib.Core.List.Memᴰ
use mathlib.Core.List.{Memᴰ}
use lib.ListN.{length-map}
use Rattle.std.specs.Cmp.{IsTotalOrder, nat_cmp_total, on_total, then_total}
use Rattle.std.specs.Ordering.{is_lt, ordering_then, nat_cmp, then_cmp, on}
use Rattle.std.proofs.lemmas.List.{get_or-map}
use Rattle.std.proofs.lemmas.Bool.{cond-true, cond-false, and_parts, cases_lt}
use Rattle.names.specs.Fronts.{front_below}
use Rattle.names.specs.Order.{order}
use Rattle.names.specs.Comparing.{names_total}
use Rattle.meaning.specs.Model.{AliasOf, Set}
use Rattle.zones.specs.Sorted.{is_before, sorted, leading, place, fronts_of}

-- ---- the order of keys

abbrev pub sets_cmp : Set → Set → Ordering
sets_cmp = then_cmp (on (λ (s : Set). s.name) order) (on (λ (s : Set). s.kind) nat_cmp)

pub sets_total : IsTotalOrder sets_cmp
sets_total = then_total (on_total (λ (s : Set). s.name) names_total) (on_total (λ (s : Set). s.kind) nat_cmp_total)

-- a set with this key
abbrev pub keyed : List (List ℕ) → ℕ → Set
keyed n k = record { name = n; kind = k; ttl = 0; content = AliasOf [] }

less : (r : Ordering) → is_lt r ≡ true → r ≡ Less
less Less h = refl
less Equal h = absurd (true≢false (sym h))
less Greater h = absurd (true≢false (sym h))

-- a set before one that stands before a key stands before the key
pub before_trans : (s t : Set) (n : List (List ℕ)) (k : ℕ) → is_before t.name t.kind s ≡ true → is_before n k t ≡ true → is_before n k s ≡ true
before_trans s t n k h g =
    ap is_lt (sets_total.trans s t (keyed n k) (less (ordering_then (order s.name t.name) (nat_cmp s.kind t.kind)) h) (less (ordering_then (order t.name n) (nat_cmp t.kind k)) g))

-- ---- sorted sets

pub sorted_tail : (s : Set) (ss : List Set) → sorted (s ∷ ss) ≡ true → sorted ss ≡ true
unfolding sorted
sorted_tail s [] h = refl
sorted_tail s (t ∷ ss) h = (and_parts (is_before t.name t.kind s) (sorted (t ∷ ss)) h).1

-- the first stands before all others
first_before : (s : Set) (ss : List Set) → sorted (s ∷ ss) ≡ true → (d : Set) (i : ℕ) → i < length ss → is_before (get_or ss i d).name (get_or ss i d).kind s ≡ true
unfolding sorted
first_before s [] h d i l = absurd (omega arith)
first_before s (t ∷ ss) h d zero l = (and_parts (is_before t.name t.kind s) (sorted (t ∷ ss)) h).0
first_before s (t ∷ ss) h d (suc i) l =
    let p = and_parts (is_before t.name t.kind s) (sorted (t ∷ ss)) h in
    before_trans s t (get_or ss i d).name (get_or ss i d).kind p.0 (first_before t ss p.1 d i (omega arith))

pub in_order : (ss : List Set) → sorted ss ≡ true → (d : Set) (i j : ℕ) → i < j → j < length ss → is_before (get_or ss j d).name (get_or ss j d).kind (get_or ss i d) ≡ true
in_order [] h d i j l m = absurd (omega arith)
in_order (s ∷ ss) h d i zero l m = absurd (omega arith)
in_order (s ∷ ss) h d zero (suc j) l m = first_before s ss h d j (omega arith)
in_order (s ∷ ss) h d (suc i) (suc j) l m = in_order ss (sorted_tail s ss h) d i j (omega arith) (omega arith)

-- ---- the first that pass a test

module _ {A : Type 0} (test : A → Bool) where
  pub leading_more : (x : A) (xs : List A) → test x ≡ true → leading test (x ∷ xs) ≡ suc (leading test xs)
  unfolding leading
  leading_more x xs h = cond-true (test x) (suc (leading test xs)) 0 h

  pub leading_stop : (x : A) (xs : List A) → test x ≡ false → leading test (x ∷ xs) ≡ 0
  unfolding leading
  leading_stop x xs h = cond-false (test x) (suc (leading test xs)) 0 h

  pub leading_nil : leading test [] ≡ 0
  unfolding leading
  leading_nil = refl

  pub leading_within : (xs : List A) → leading test xs ≤ length xs
  leading_within [] = let z = leading_nil in omega arith
  leading_within (x ∷ xs) = go (test x) refl (leading_within xs)
    where
      go : (b : Bool) → test x ≡ b → leading test xs ≤ length xs → leading test (x ∷ xs) ≤ suc (length xs)
      go true e ih = let z = leading_more x xs e in omega arith
      go false e ih = let z = leading_stop x xs e in omega arith

  -- each of them passes
  pub passes : (xs : List A) (d : A) (i : ℕ) → i < leading test xs → test (get_or xs i d) ≡ true
  passes [] d i l = let z = leading_nil in absurd (omega arith)
  passes (x ∷ xs) d i l = go (test x) refl i l (passes xs d)
    where
      go : (b : Bool) → test x ≡ b → (j : ℕ) → j < leading test (x ∷ xs) → ((i : ℕ) → i < leading test xs → test (get_or xs i d) ≡ true) → test (get_or (x ∷ xs) j d) ≡ true
      go false e j m ih = let z = leading_stop x xs e in absurd (omega arith)
      go true e zero m ih = e
      go true e (suc j) m ih = let z = leading_more x xs e in ih j (omega arith)

  -- the one behind them doesn't
  pub fails : (xs : List A) (d : A) → leading test xs < length xs → test (get_or xs (leading test xs) d) ≡ false
  fails [] d l = absurd (omega arith)
  fails (x ∷ xs) d l = go (test x) refl (fails xs d)
    where
      go : (b : Bool) → test x ≡ b → (leading test xs < length xs → test (get_or xs (leading test xs) d) ≡ false) → test (get_or (x ∷ xs) (leading test (x ∷ xs)) d) ≡ false
      go true e ih = let z = leading_more x xs e in ap (λ m. test (get_or (x ∷ xs) m d)) z ∙ ih (omega arith)
      go false e ih = ap (λ m. test (get_or (x ∷ xs) m d)) (leading_stop x xs e) ∙ e

  -- where one that passes has none before it that fails, a search can halve
  abbrev pub Falls : List A → Type 0
  Falls xs = (d : A) (i j : ℕ) → i < j → j < length xs → test (get_or xs j d) ≡ true → test (get_or xs i d) ≡ true

  pub left_half : (xs : List A) (d : A) (i : ℕ) → test (get_or xs i d) ≡ false → leading test xs ≤ i
  left_half xs d i h = ⊎_elim (λ l. absurd (true≢false (sym (passes xs d i l) ∙ h))) (λ l. l) (cases_lt i (leading test xs))

  pub right_half : (xs : List A) → Falls xs → (d : A) (i : ℕ) → i < length xs → test (get_or xs i d) ≡ true → i < leading test xs
  right_half xs o d i l h =
      ⊎_elim (λ m. m)
      (λ (m : leading test xs ≤ i). absurd (true≢false (sym (earlier (leading test xs) m) ∙ fails xs d (omega arith))))
      (cases_lt i (leading test xs))
    where
      earlier : (j : ℕ) → j ≤ i → test (get_or xs j d) ≡ true
      earlier j m = ⊎_elim (λ lt. o d j i lt l h) (λ ge. let e : i ≡ j = omega arith in subst (λ x. test (get_or xs x d) ≡ true) e h) (cases_lt j i)

-- so many of the first pass a test: those before do, and the one there doesn't
pub leading_is : {A : Type 0} (test : A → Bool) (xs : List A) (m : ℕ) (d : A) → m ≤ length xs → ((i : ℕ) → i < m → test (get_or xs i d) ≡ true) → (m < length xs → test (get_or xs m d) ≡ false) → m ≡ leading test xs
leading_is test xs m d l before there =
    let w = leading_within test xs in
    ⊎_elim
    (λ (lt : m < leading test xs). absurd (true≢false (sym (passes test xs d m lt) ∙ there (omega arith))))
    (λ (ge : leading test xs ≤ m).
    ⊎_elim (λ (lt : leading test xs < m). absurd (true≢false (sym (before (leading test xs) lt) ∙ fails test xs d (omega arith)))) (λ (le : m ≤ leading test xs). omega arith) (cases_lt (leading test xs) m))
    (cases_lt m (leading test xs))

-- an element that the code reads, in the list of what the elements stand for
module _ {X A : Type 0} (f : X → A) (xs : List X) where
  pub read_at : (i : ℕ) (x : X) → i < length xs → x ≡ get_or xs i x → get_or (map f xs) i (f x) ≡ f x
  read_at i x l e = get_or-map f xs i x (f x) l ∙ ap f (sym e)

pub fronts_many : {X : Type 0} (f : X → Set) (xs : List X) (fs : List ℕ) (d : ℕ) → fs ≡ fronts_of d (map f xs) → length fs ≡ length xs
fronts_many f xs fs d m = ap length m ∙ length-map (map f xs) (λ (s : Set). front_below d s.name) ∙ length-map xs f

-- ---- members by their index

pub mem_at : {A : Type 0} (xs : List A) (d : A) (i : ℕ) → i < length xs → Memᴰ (get_or xs i d) xs
mem_at [] d i l = absurd (omega arith)
mem_at (x ∷ xs) d zero l = Memᴰ.head refl
mem_at (x ∷ xs) d (suc i) l = Memᴰ.tail (mem_at xs d i (omega arith))

pub index_of : {A : Type 0} (xs : List A) (d x : A) → Memᴰ x xs → (i : ℕ) × (i < length xs) × (get_or xs i d ≡ x)
index_of [] d x m = absurd (Memᴰ.not-nil m)
index_of (y ∷ xs) d x m = go (index_of xs d x) (Memᴰ.cases_cons m)
  where
    go : (Memᴰ x xs → (i : ℕ) × (i < length xs) × (get_or xs i d ≡ x)) → (x ≡ y) ⊎ Memᴰ x xs → (i : ℕ) × (i < length (y ∷ xs)) × (get_or (y ∷ xs) i d ≡ x)
    go ih (inl e) = (zero, omega arith, sym e)
    go ih (inr n) = let r = ih n in let l = r.1 in (suc r.0, omega arith, r.2)

-- ---- sorted sets

pub sets_fall : (n : List (List ℕ)) (k : ℕ) (ss : List Set) → sorted ss ≡ true → Falls (is_before n k) ss
sets_fall n k ss o d i j l m h = before_trans (get_or ss i d) (get_or ss j d) n k (in_order ss o d i j l m) h

-- a place is how many of the first sets stand before the key
pub place_leading : (n : List (List ℕ)) (k : ℕ) (ss : List Set) → place n k ss ≡ leading (is_before n k) ss
unfolding place leading
place_leading n k [] = refl
place_leading n k (s ∷ ss) = ap (λ m. cond (is_before n k s) (suc m) 0) (place_leading n k ss)

module _ (n : List (List ℕ)) (k : ℕ) where
  pub place_more : (s : Set) (ss : List Set) → is_before n k s ≡ true → place n k (s ∷ ss) ≡ suc (place n k ss)
  unfolding place
  place_more s ss h = cond-true (is_before n k s) (suc (place n k ss)) 0 h

  pub place_stop : (s : Set) (ss : List Set) → is_before n k s ≡ false → place n k (s ∷ ss) ≡ 0
  unfolding place
  place_stop s ss h = cond-false (is_before n k s) (suc (place n k ss)) 0 h

  pub place_nil : place n k [] ≡ 0
  unfolding place
  place_nil = refl

  pub place_within : (ss : List Set) → place n k ss ≤ length ss
  place_within ss = let e = place_leading n k ss in let w = leading_within (is_before n k) ss in omega arith

  -- what stands before the place stands before the key
  pub before_place : (ss : List Set) (d : Set) (i : ℕ) → i < place n k ss → is_before n k (get_or ss i d) ≡ true
  before_place ss d i l = let e = place_leading n k ss in passes (is_before n k) ss d i (omega arith)

  -- the set at the place doesn't
  pub at_place : (ss : List Set) (d : Set) → place n k ss < length ss → is_before n k (get_or ss (place n k ss) d) ≡ false
  at_place ss d l = let e = place_leading n k ss in ap (λ m. is_before n k (get_or ss m d)) e ∙ fails (is_before n k) ss d (omega arith)

  -- the set at an index that doesn't is at the place or behind it
  pub place_left : (ss : List Set) (d : Set) (i : ℕ) → is_before n k (get_or ss i d) ≡ false → place n k ss ≤ i
  place_left ss d i h = let e = place_leading n k ss in let w = left_half (is_before n k) ss d i h in omega arith
