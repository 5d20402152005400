-- The cache as a list with places: putting an entry in, and what is forgotten where there is no room. Assumes nothing.
use Rattle.std.specs.Prelude.{◌≡◌, ℕ, suc, ◌≤◌, Bool, true, false, cond, not, ◌&&◌, ◌||◌, ◌⊎◌, List, [], ◌∷◌, ◌++◌, length, get_or, Some, None, Option, ◌==◌, nat_lt, slice_index_or, slice_set}
use mathlib.Core.List.{Memᴰ}
use Rattle.std.specs.Option.{option_map}
use Rattle.protocol.specs.Lists.{any}
use Rattle.protocol.specs.World.{Rules, Entry, until, is_key}

-- the most entries
abbrev pub max_entries : ℕ
max_entries = 1024

-- where the first element stands that passes a test
unfoldable pub place_of : {A : Type 0} → (A → Bool) → List A → Option ℕ
place_of test [] = None
place_of test (x ∷ xs) = cond (test x) (Some 0) (option_map suc (place_of test xs))

-- no two entries have one key
unfoldable pub one_a_key : List Entry → Bool
one_a_key [] = true
one_a_key (e ∷ es) = not (any (is_key e.apex e.name e.kind) es) && one_a_key es

-- runs out before another; of two that run out together, the one that was heard first
abbrev pub sooner : Rules → Entry → Entry → Bool
sooner r a b = nat_lt (until r a) (until r b) || (until r a == until r b && nat_lt a.heard b.heard)

-- of the head and what was found behind it
abbrev pub pick : Rules → Entry → List Entry → Option ℕ → Option ℕ
pick r e es None = Some 0
pick r e es (Some j) = cond (sooner r (slice_index_or es j e) e) (Some (suc j)) (Some 0)

-- where the entry stands that runs out first, of those not in use
unfoldable pub soonest : Rules → (Entry → Bool) → List Entry → Option ℕ
soonest r used [] = None
soonest r used (e ∷ es) = cond (used e) (option_map suc (soonest r used es)) (pick r e es (soonest r used es))

-- what became of an entry that was put in
pub data Put : Type 0 where
  -- it has a place of its own, or that of the entry of the same key
  Kept : (entries : List Entry) → Put
  -- another was forgotten for it
  Ousted : (place : ℕ) → (entries : List Entry) → Put
  -- every entry is in use
  NoRoom : Put

abbrev pub oust : Entry → List Entry → Option ℕ → Put
oust e es None = NoRoom
oust e es (Some i) = Ousted i (slice_set es i e)

abbrev pub put_at : Rules → (Entry → Bool) → Entry → List Entry → Option ℕ → Put
put_at r used e es (Some i) = Kept (slice_set es i e)
put_at r used e es None = cond (nat_lt (length es) max_entries) (Kept (es ++ (e ∷ []))) (oust e es (soonest r used es))

unfoldable pub put : Rules → (Entry → Bool) → Entry → List Entry → Put
put r used e es = put_at r used e es (place_of (is_key e.apex e.name e.kind) es)

-- ---- what is promised of it

-- what was ousted was not in use, and of those not in use none runs out sooner
pub record OustedFirst (r : Rules) (used : Entry → Bool) (es : List Entry) (e : Entry) : Type 0 where
  pub there : Memᴰ e es
  pub unused : used e ≡ false
  pub first_out : (f : Entry) → Memᴰ f es → used f ≡ false → until r e ≤ until r f

-- what an entry put in leaves: itself, and all but the one whose place it has
pub record StoreLaws : Type 0 where
  pub keeps_room : (r : Rules) (used : Entry → Bool) (e : Entry) (es fs : List Entry) → one_a_key es ≡ true → length es ≤ max_entries → (put r used e es ≡ Kept fs) ⊎ ((i : ℕ) × (put r used e es ≡ Ousted i fs)) → length fs ≤ max_entries
  pub keeps_keys : (r : Rules) (used : Entry → Bool) (e : Entry) (es fs : List Entry) → one_a_key es ≡ true → (put r used e es ≡ Kept fs) ⊎ ((i : ℕ) × (put r used e es ≡ Ousted i fs)) → one_a_key fs ≡ true
  -- put in without ousting: the members are the new one and all of another key
  pub kept : (r : Rules) (used : Entry → Bool) (e : Entry) (es fs : List Entry) → one_a_key es ≡ true → put r used e es ≡ Kept fs → (f : Entry) →
      (Memᴰ f fs → (f ≡ e) ⊎ (Memᴰ f es × (is_key e.apex e.name e.kind f ≡ false))) × ((f ≡ e) ⊎ (Memᴰ f es × (is_key e.apex e.name e.kind f ≡ false)) → Memᴰ f fs)
  -- with ousting: the new one, and all but the one that runs out first
  pub ousted : (r : Rules) (used : Entry → Bool) (e : Entry) (es fs : List Entry) (i : ℕ) → one_a_key es ≡ true → put r used e es ≡ Ousted i fs →
      OustedFirst r used es (slice_index_or es i e) × (any (is_key e.apex e.name e.kind) es ≡ false) × ((f : Entry) →
      (Memᴰ f fs → (f ≡ e) ⊎ (Memᴰ f es × (is_key (get_or es i e).apex (get_or es i e).name (get_or es i e).kind f ≡ false))) × ((f ≡ e) ⊎ (Memᴰ f es × (is_key (get_or es i e).apex (get_or es i e).name (get_or es i e).kind f ≡ false)) → Memᴰ f fs))
  -- there is no room only if all are in use
  pub no_room : (r : Rules) (used : Entry → Bool) (e : Entry) (es : List Entry) → put r used e es ≡ NoRoom → (max_entries ≤ length es) × ((f : Entry) → Memᴰ f es → used f ≡ true)
