-- What a `Cache` stands for, and what a call leaves of it.
use Rattle.std.specs.Prelude.{◌≡◌, ℕ, Bool, false, List, map, Some, None, Option}
use Rattle.protocol.specs.World as world
use Rattle.machine.specs.Store as store
use Rattle.machine.specs.Store.{Put}
use Rattle.cache.specs.declared.store.Cache.{Cache}
use Rattle.cache.specs.declared.store.put.Stored.{Stored}
use Rattle.cache.specs.declared.store.put.Stored.TheVariants as rust
use Rattle.cache.specs.Entries.{entry_of}

abbrev pub entries_of : Cache → List world.Entry
entries_of c = map entry_of c.entries

-- what is due was done, and is what was told; where there was no room, all is as it was
abbrev pub Puts : Put → List world.Entry → Stored → List world.Entry → Type 0
Puts due before rust.Kept after = due ≡ store.Kept after
Puts due before rust.Ousted after = (i : ℕ) × (due ≡ store.Ousted i after)
Puts due before rust.NoRoom after = (due ≡ store.NoRoom) × (after ≡ before)

-- what a function gives at a place, if there is one
abbrev pub onto : {A B : Type 0} → (A → Option B) → Option A → Option B
onto f None = None
onto f (Some x) = f x

-- whether there is an entry, of this key
abbrev pub key_at : List (List ℕ) → List (List ℕ) → ℕ → Option world.Entry → Bool
key_at a n k None = false
key_at a n k (Some e) = world.is_key a n k e
