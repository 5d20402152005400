-- How a zone is cut into the parts of a transfer. Assumes nothing.
use Rattle.std.specs.Prelude.{◌≡◌, ℕ, ◌+◌, ◌≤◌, ◌<◌, true, cond, List, [], ◌∷◌, ◌++◌, length, nat_le}
use mathlib.Core.List.{Memᴰ}
use Rattle.meaning.specs.Model.{Set, Zone}
use Rattle.meaning.specs.Transfer.{transferred, all_transferred}
use Rattle.wire.specs.Parts.{Part, head_keeps, sets_keep, part_keeps}
use Rattle.wire.specs.Shapes.{Times}

-- a packet has 1,200 bytes, of which 41 stand before the sets
abbrev pub room : ℕ
room = 1159

-- ---- rows: as many sets in each as fit, in the order in which they stand

-- the first is under way already; a zone without sets is one row without sets
unfoldable pub rows_behind : List Set → List Set → List (List Set)
rows_behind row [] = row ∷ []
rows_behind row (s ∷ ss) =
    cond (nat_le (length (all_transferred (row ++ s ∷ []))) room)
    (rows_behind (row ++ s ∷ []) ss)
    (row ∷ rows_behind (s ∷ []) ss)

abbrev pub rows : List Set → List (List Set)
rows ss = rows_behind [] ss

-- each set alone fits
abbrev pub EachFits : List Set → Type 0
EachFits ss = (s : Set) → Memᴰ s ss → length (transferred s) ≤ room

-- ---- parts: the rows behind their heads, counted from 1

abbrev pub times_of : Zone → Times
times_of z = record { negative = z.negative; refresh = z.refresh; expire = z.expire }

abbrev pub part_from : Zone → ℕ → ℕ → ℕ → ℕ → List Set → Part
part_from z id moment of n row = record {
  head = record { id = id; serial = z.serial; moment = moment; times = times_of z; part = n; of = of };
  sets = row;
}

unfoldable pub parts_from : Zone → ℕ → ℕ → ℕ → ℕ → List (List Set) → List Part
parts_from z id moment of n [] = []
parts_from z id moment of n (r ∷ rs) = part_from z id moment of n r ∷ parts_from z id moment of (n + 1) rs

abbrev pub split : Zone → ℕ → ℕ → List Part
split z id moment = parts_from z id moment (length (rows z.sets)) 1 (rows z.sets)

-- ---- what holds of them

unfoldable pub all_sets : List Part → List Set
all_sets [] = []
all_sets (p ∷ ps) = p.sets ++ all_sets ps

pub record SplitLaws : Type 0 where
  -- the sets of all parts, one behind the other, are the zone's
  pub whole : (z : Zone) (id moment : ℕ) → all_sets (split z id moment) ≡ z.sets
  -- each part keeps the rules of packets: none is too long
  pub fits : (z : Zone) (id moment : ℕ) → head_keeps (part_from z id moment 1 1 []).head ≡ true → sets_keep z.sets ≡ true → length z.sets ≤ 4096 → (p : Part) → Memᴰ p (split z id moment) → part_keeps p ≡ true
  -- each is as full as can be: with the first set of the next one it would be too long
  pub full : (z : Zone) (front back : List (List Set)) (a b : List Set) (s : Set) → rows z.sets ≡ front ++ a ∷ (s ∷ b) ∷ back → room < length (all_transferred (a ++ s ∷ []))
  -- sets that keep the rules fit, and so do those of every zone that is split
  pub alone : (ss : List Set) → sets_keep ss ≡ true → EachFits ss
  -- then, where there are several rows, none is without sets
  pub several : (z : Zone) (front back : List (List Set)) (row : List Set) → EachFits z.sets → rows z.sets ≡ front ++ row ∷ back → 1 < length (rows z.sets) → 1 ≤ length row
  -- there is one at least, and no more than sets, unless there is none
  pub few : (z : Zone) → EachFits z.sets → (1 ≤ length (rows z.sets)) × (1 ≤ length z.sets → length (rows z.sets) ≤ length z.sets)
