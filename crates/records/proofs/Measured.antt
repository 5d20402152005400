-- Pieces of data, measured one by one.
use Rattle.std.proofs.Common.{◌≡◌, ℕ, ◌+◌, ◌*◌, ◌≤◌, List, map, drop}
use Rattle.meaning.specs.Model.{total, short}

module _ {X : Type 0} (bytes : X → List ℕ) (xs : List X) where
  -- of the pieces so far: their bytes, and that none was too long
  pub record Measured (sum i : ℕ) : Type 0 where
    pub whole : sum + total (map bytes (drop i xs)) ≡ total (map bytes xs)
    pub good : short (map bytes (drop i xs)) ≡ short (map bytes xs)
    pub bound : sum ≤ 255 * i
