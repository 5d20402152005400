-- The laws of what a zone says, for the layers above, which never look into `says`.
use Rattle.std.specs.Prelude.{◌≡◌, ℕ, Bool, true, false, cond, not, ◌&&◌, List, [], ◌∷◌, Some, None, Option, ◌==◌, ◌≢◌}
use mathlib.Core.List.{Memᴰ}
use Rattle.names.specs.Order.{within}
use Rattle.meaning.specs.Model.{Set, Zone}
use Rattle.meaning.specs.Says.{Speaker, ByDelegation, BySet, ByAlias, NoName, Over, AliasAt, No, same, is_over, highest, says, Distinct}

-- ---- sets that are never told

abbrev pub is_other : Set → Option Set → Bool
is_other s None = false
is_other s (Some d) = not (same d.name s.name && d.kind == s.kind)

-- another set, a delegation at its name or above it, speaks in its place
abbrev pub is_hidden : Zone → Set → Bool
is_hidden z s = is_other s (highest (is_over z.apex s.name) z.sets)

unfoldable pub keep : (Set → Bool) → List Set → List Set
keep test [] = []
keep test (s ∷ ss) = cond (test s) (s ∷ keep test ss) (keep test ss)

-- the sets that are hidden, and the zone without them
abbrev pub hidden : Zone → List Set
hidden z = keep (is_hidden z) z.sets

abbrev pub unhidden : Zone → Zone
unhidden z = record {
  apex = z.apex;
  serial = z.serial;
  negative = z.negative;
  refresh = z.refresh;
  expire = z.expire;
  sets = keep (λ s. not (is_hidden z s)) z.sets;
}

pub record SaysLaws : Type 0 where
  -- an answer exists exactly for names within the apex
  pub answers : (z : Zone) (q : List (List ℕ)) (k : ℕ) → within z.apex q ≡ true → (a : Speaker) × (says z q k ≡ Some a)
  pub within_apex : (z : Zone) (q : List (List ℕ)) (k : ℕ) (a : Speaker) → says z q k ≡ Some a → within z.apex q ≡ true
  -- a referral leads down: below the apex, at or above the name that was asked for
  pub referral : (z : Zone) (q : List (List ℕ)) (k : ℕ) (s : Set) → says z q k ≡ Some (ByDelegation s) → Over z q s
  -- it is the same for every name below the delegation, and every kind
  pub referral_same : (z : Zone) → Distinct z → (q : List (List ℕ)) (k : ℕ) (s : Set) → says z q k ≡ Some (ByDelegation s) → (r : List (List ℕ)) (j : ℕ) → within s.name r ≡ true → says z r j ≡ Some (ByDelegation s)
  -- nothing at or below a delegation is told but a delegation
  pub delegated : (z : Zone) (q : List (List ℕ)) (k : ℕ) (s : Set) → within z.apex q ≡ true → Over z q s → (t : Set) × (says z q k ≡ Some (ByDelegation t))
  -- data only from a set of just that name and kind
  pub data_of : (z : Zone) (q : List (List ℕ)) (k : ℕ) (s : Set) → says z q k ≡ Some (BySet s) → Memᴰ s z.sets × (s.name ≡ q) × (s.kind ≡ k)
  -- an alias only where another kind was asked for; asked for its own, it is data
  pub alias_of : (z : Zone) (q : List (List ℕ)) (k : ℕ) (s : Set) → says z q k ≡ Some (ByAlias s) → AliasAt z q s × (s.kind ≢ k)
  pub alias_asked : (z : Zone) → Distinct z → (q : List (List ℕ)) (s : Set) → within z.apex q ≡ true → No (Over z q) → AliasAt z q s → says z q s.kind ≡ Some (BySet s)
  -- where no name is, none is below it
  pub no_name_below : (z : Zone) → Distinct z → (p q : List (List ℕ)) (j k : ℕ) → says z p j ≡ Some NoName → within p q ≡ true → says z q k ≡ Some NoName
  -- sets that are hidden decide nothing
  pub unhidden_same : (z : Zone) → Distinct z → (q : List (List ℕ)) (k : ℕ) → says (unhidden z) q k ≡ says z q k
