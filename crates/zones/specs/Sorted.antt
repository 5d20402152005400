-- Sets in the order of names, then kinds, and where a name and kind stand among them.
use Rattle.std.specs.Prelude.{◌≡◌, ℕ, suc, ◌<◌, ◌≤◌, Bool, true, false, cond, ◌&&◌, ◌||◌, List, [], ◌∷◌, map, length, take, drop, slice_index_or}
use Rattle.std.specs.Ordering.{is_lt, ordering_then, nat_cmp}
use mathlib.Core.List.{Memᴰ}
use Rattle.names.specs.Fronts.{front_below}
use Rattle.names.specs.Order.{order, within}
use Rattle.meaning.specs.Model.{Set, Zone}
use Rattle.meaning.specs.Says.{Distinct}

-- a set that stands before a name and kind
abbrev pub is_before : List (List ℕ) → ℕ → Set → Bool
is_before n k s = is_lt (ordering_then (order s.name n) (nat_cmp s.kind k))

-- strictly in order: so no name and kind stands twice
unfoldable pub sorted : List Set → Bool
sorted [] = true
sorted (s ∷ []) = true
sorted (s ∷ t ∷ ss) = is_before t.name t.kind s && sorted (t ∷ ss)

-- how many sets stand before a name and kind
unfoldable pub place : List (List ℕ) → ℕ → List Set → ℕ
place n k [] = 0
place n k (s ∷ ss) = cond (is_before n k s) (suc (place n k ss)) 0

-- how many of the first pass a test
unfoldable pub leading : {A : Type 0} → (A → Bool) → List A → ℕ
leading test [] = 0
leading test (x ∷ xs) = cond (test x) (suc (leading test xs)) 0

-- do all pass a test, or some
unfoldable pub each : {A : Type 0} → (A → Bool) → List A → Bool
each test [] = true
each test (x ∷ xs) = test x && each test xs

unfoldable pub some : {A : Type 0} → (A → Bool) → List A → Bool
some test [] = false
some test (x ∷ xs) = test x || some test xs

-- sets within an apex
abbrev pub all_within : List (List ℕ) → List Set → Bool
all_within apex = each (λ s. within apex s.name)

-- the set at an index, alone
abbrev pub set_at : ℕ → List Set → List Set
set_at i ss = take 1 (drop i ss)

-- the fronts of their names, below an apex of so many labels
abbrev pub fronts_of : ℕ → List Set → List ℕ
fronts_of depth = map (λ s. front_below depth s.name)

-- the same by labels from a depth on
abbrev pub is_before_below : ℕ → List (List ℕ) → ℕ → Set → Bool
is_before_below depth n k s = is_lt (ordering_then (order (drop depth s.name) (drop depth n)) (nat_cmp s.kind k))

-- from low to high the fronts are one number
abbrev pub Alike : ℕ → List ℕ → ℕ → ℕ → Type 0
Alike sought fronts low high = (i : ℕ) → low ≤ i → i < high → slice_index_or fronts i 0 ≡ sought

-- only from low to high could sets stand at a name: those before have names before it, those from high on behind it; where
-- there are any, the name is within the apex
pub record Narrowed (apex n : List (List ℕ)) (ss : List Set) (low high : ℕ) : Type 0 where
  pub rise : low ≤ high
  pub bound : high ≤ length ss
  pub before : (i : ℕ) (d : Set) → i < low → is_lt (order (slice_index_or ss i d).name n) ≡ true
  pub behind : (i : ℕ) (d : Set) → high ≤ i → i < length ss → is_lt (order n (slice_index_or ss i d).name) ≡ true
  pub asked : low < high → within apex n ≡ true

-- sorted sets are distinct, so the laws of what a zone says hold of every zone that is made
abbrev pub SortedDistinct : Type 0
SortedDistinct = (z : Zone) → sorted z.sets ≡ true → Distinct z

-- sorted sets with the same members are equal lists, so those of a zone have one form
abbrev pub SortedCanonical : Type 0
SortedCanonical = (ss ts : List Set) → sorted ss ≡ true → sorted ts ≡ true → ((s : Set) → Memᴰ s ss → Memᴰ s ts) → ((s : Set) → Memᴰ s ts → Memᴰ s ss) → ss ≡ ts
