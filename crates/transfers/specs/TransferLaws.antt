-- What holds of splitting and putting together.
use Rattle.std.specs.Prelude.{◌≡◌, ℕ, ◌≤◌, ◌⊎◌, true, false, List, ◌∷◌, length, Ok}
use mathlib.Core.List.{Memᴰ}
use Rattle.meaning.specs.Model.{Set, Zone}
use Rattle.zones.specs.Sorted.{sorted}
use Rattle.zones.specs.Valid.{valid}
use Rattle.wire.specs.Parts.{Part}
use Rattle.transfers.specs.Splitting.{rows, EachFits, split}
use Rattle.transfers.specs.Joining.{Joining, is_there, is_complete, begin, take, zone_in, join}

-- of the same version of a zone, cut into as many parts
pub record SameVersion (j k : Joining) : Type 0 where
  pub apex : k.apex ≡ j.apex
  pub serial : k.serial ≡ j.serial
  pub moment : k.moment ≡ j.moment
  pub times : k.times ≡ j.times
  pub of : length k.there ≡ length j.there

-- of which version a part is
pub record OfVersion (j : Joining) (p : Part) : Type 0 where
  pub serial : p.head.serial ≡ j.serial
  pub moment : p.head.moment ≡ j.moment
  pub times : p.head.times ≡ j.times
  pub of : p.head.of ≡ length j.there

-- a part of this zone's transfer, in response to whichever request
abbrev pub IsPart : Zone → ℕ → Part → Type 0
IsPart z moment p = (id : ℕ) × Memᴰ p (split z id moment)

-- of each number one came
abbrev pub AllCame : Zone → List Part → Type 0
AllCame z came = (n : ℕ) → 1 ≤ n → n ≤ length (rows z.sets) → (p : Part) × Memᴰ p came × (p.head.part ≡ n)

-- what is there is what these parts brought: it is complete exactly where all came, and then it is the zone
pub record Rejoined (z : Zone) (moment : ℕ) (came : List Part) : Type 0 where
  pub result : Joining
  pub complete_is_zone : is_complete result.there ≡ true → zone_in result ≡ z
  pub moment_is : result.moment ≡ moment
  pub all_came : AllCame z came → is_complete result.there ≡ true
  pub only_all : is_complete result.there ≡ true → AllCame z came

pub record TransferLaws : Type 0 where
  -- parts of a zone in any order, repeated or not, are never refused, and make the zone once all are there
  pub rejoined : (z : Zone) (moment : ℕ) → sorted z.sets ≡ true → valid z.apex z.sets ≡ true → EachFits z.sets
      → (p : Part) (ps : List Part) → ((q : Part) → Memᴰ q (p ∷ ps) → IsPart z moment q)
      → (r : Rejoined z moment (p ∷ ps)) × (join z.apex p ps ≡ Ok r.result)
  -- parts of two versions never make a zone: whatever is taken is of the version of the first
  pub one_version : (p : Part) (j k : Joining) → take p j ≡ Ok k → OfVersion j p × SameVersion j k
  pub first_version : (apex : List (List ℕ)) (p : Part) (j : Joining) → begin apex p ≡ Ok j → (j.apex ≡ apex) × OfVersion j p
  -- every set that is there stood there before, or came with the part
  pub said : (p : Part) (j k : Joining) (s : Set) → take p j ≡ Ok k → Memᴰ s k.sets → Memᴰ s j.sets ⊎ Memᴰ s p.sets
  -- what stood there stays, and a part that wasn't there brings all its sets
  pub kept : (p : Part) (j k : Joining) (s : Set) → take p j ≡ Ok k → Memᴰ s j.sets → Memᴰ s k.sets
  pub brought : (p : Part) (j k : Joining) (s : Set) → take p j ≡ Ok k → is_there j.there p.head.part ≡ false → Memᴰ s p.sets → Memᴰ s k.sets
  -- the first part brings its sets, and no others
  pub first_said : (apex : List (List ℕ)) (p : Part) (j : Joining) (s : Set) → begin apex p ≡ Ok j → (Memᴰ s j.sets → Memᴰ s p.sets) × (Memᴰ s p.sets → Memᴰ s j.sets)
