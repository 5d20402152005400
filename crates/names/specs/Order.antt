-- When one name lies within another, and the order of names. Assumes nothing.
use Rattle.std.specs.Prelude.{◌≡◌, ℕ, nat_eq, Bool, true, false, ◌&&◌, ◌⊎◌, List, [], ◌∷◌, ◌++◌}
use Rattle.std.specs.declared.cmp.Ordering.TheVariants.{Equal}
use Rattle.std.specs.declared.cmp.Ordering.{Ordering}
use Rattle.std.specs.Cmp.Lexicographic.{pointwise, slice_cmp}
use Rattle.std.specs.Ordering.{is_le, nat_cmp}

-- two labels byte by byte
abbrev pub same_label : List ℕ → List ℕ → Bool
same_label = pointwise nat_eq

-- two labels by their bytes as unsigned numbers; a front of the other comes first
abbrev pub label_order : List ℕ → List ℕ → Ordering
label_order = slice_cmp nat_cmp

-- the first name's labels are the first labels of the second, which so is at or below it
unfoldable pub within : List (List ℕ) → List (List ℕ) → Bool
within [] ms = true
within (l ∷ ls) [] = false
within (l ∷ ls) (m ∷ ms) = same_label l m && within ls ms

-- two names label by label, from the root down; a front of the other comes first
unfoldable pub order : List (List ℕ) → List (List ℕ) → Ordering
order = slice_cmp (slice_cmp nat_cmp)

-- at or before
abbrev pub NotAfter : List (List ℕ) → List (List ℕ) → Type 0
NotAfter a b = is_le (order a b) ≡ true

pub record WithinLaws : Type 0 where
  pub front : (q n : List (List ℕ)) → within q n ≡ true → (rest : List (List ℕ)) × (n ≡ q ++ rest)
  pub extends : (q rest : List (List ℕ)) → within q (q ++ rest) ≡ true
  pub transitive : (p q n : List (List ℕ)) → within p q ≡ true → within q n ≡ true → within p n ≡ true
  -- of two names above one name, one is above the other
  pub nested : (p q n : List (List ℕ)) → within p n ≡ true → within q n ≡ true → (within p q ≡ true) ⊎ (within q p ≡ true)

pub record OrderLaws : Type 0 where
  pub total : (a b : List (List ℕ)) → NotAfter a b ⊎ NotAfter b a
  pub transitive : (a b c : List (List ℕ)) → NotAfter a b → NotAfter b c → NotAfter a c
  pub antisymmetric : (a b : List (List ℕ)) → NotAfter a b → NotAfter b a → a ≡ b
  pub equal : (a b : List (List ℕ)) → (order a b ≡ Equal → a ≡ b) × (a ≡ b → order a b ≡ Equal)
  -- what `==` answers tells which names are the same
  pub told : (a b : List (List ℕ)) → (pointwise (pointwise nat_eq) a b ≡ true → a ≡ b) × (a ≡ b → pointwise (pointwise nat_eq) a b ≡ true)
  -- a name comes before those below it
  pub above_first : (q n : List (List ℕ)) → within q n ≡ true → NotAfter q n
  -- what lies between a name and one within it is within it too: the names within a name stand in one row
  pub between : (q m n : List (List ℕ)) → NotAfter q m → NotAfter m n → within q n ≡ true → within q m ≡ true
