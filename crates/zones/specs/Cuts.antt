-- The topmost delegations of a zone, by their names in order.
use Rattle.std.specs.Prelude.{ℕ, Bool, true, cond, not, ◌&&◌, ◌||◌, List, [], ◌∷◌, drop, is_some, Some, None, Option}
use Rattle.std.specs.Ordering.{is_lt, is_le}
use Rattle.names.specs.Order.{order, within}
use Rattle.meaning.specs.Model.{delegates, Set}
use Rattle.meaning.specs.Says.{is_exactly, find}
use Rattle.zones.specs.Sorted.{leading, each, some}

-- in order, and the first isn't above the second; so none is above another
unfoldable pub apart : List (List (List ℕ)) → Bool
apart [] = true
apart (c ∷ []) = true
apart (c ∷ d ∷ cs) = is_lt (order c d) && not (within c d) && apart (d ∷ cs)

abbrev pub all_below : List (List ℕ) → List (List (List ℕ)) → Bool
all_below apex = each (within apex)

-- a delegation at each
abbrev pub all_there : List Set → List (List (List ℕ)) → Bool
all_there ss = each (λ c. is_some (find (is_exactly c 4) ss))

-- each delegation at one of them or below it
abbrev pub all_covered : List (List (List ℕ)) → List Set → Bool
all_covered cs = each (λ s. not (delegates s.kind) || some (λ c. within c s.name) cs)

-- these are the names of the topmost delegations
abbrev pub cuts_of : List (List ℕ) → List Set → List (List (List ℕ)) → Bool
cuts_of apex ss cs = apart cs && all_below apex cs && all_there ss cs && all_covered cs ss

-- how many aren't after a name
abbrev pub cut_place : List (List ℕ) → List (List (List ℕ)) → ℕ
cut_place n = leading (λ c. is_le (order c n))

-- the same by labels from a depth on
abbrev pub is_up_to_below : ℕ → List (List ℕ) → List (List ℕ) → Bool
is_up_to_below depth n c = is_le (order (drop depth c) (drop depth n))

-- the one at a name or above it
unfoldable pub cut_over : List (List ℕ) → List (List (List ℕ)) → Option (List (List ℕ))
cut_over n [] = None
cut_over n (c ∷ cs) = cond (within c n) (Some c) (cut_over n cs)

-- those behind a name that aren't below it
unfoldable pub beyond : List (List ℕ) → List (List (List ℕ)) → List (List (List ℕ))
beyond n [] = []
beyond n (c ∷ cs) = cond (within n c) (beyond n cs) (c ∷ cs)

-- a name more, in its place, where none is over it
unfoldable pub with_cut : List (List ℕ) → List (List (List ℕ)) → List (List (List ℕ))
with_cut n [] = n ∷ []
with_cut n (c ∷ cs) = cond (is_le (order c n)) (c ∷ with_cut n cs) (n ∷ beyond n (c ∷ cs))

abbrev pub no_other : List (List ℕ) → Option (List (List ℕ)) → Option (List (List ℕ))
no_other n None = Some n
no_other n (Some c) = None

-- the name of a set that becomes a topmost delegation
abbrev pub new_cut : Set → List (List (List ℕ)) → Option (List (List ℕ))
new_cut s cs = cond (delegates s.kind) (no_other s.name (cut_over s.name cs)) None

-- with one that may have come
abbrev pub with_any : Option (List (List ℕ)) → List (List (List ℕ)) → List (List (List ℕ))
with_any None cs = cs
with_any (Some n) cs = with_cut n cs
