-- Hints: which there are of a hash and place, and that they are there for every entry. Assumes nothing.
use Rattle.std.specs.Prelude.{◌≡◌, ℕ, ◌+◌, ◌<◌, ◌≤◌, Bool, true, ◌&&◌, List, [], length, get_or, ◌==◌, slice_index_or}
use Rattle.meaning.specs.Speech.{Empty}
use Rattle.protocol.specs.Lists.{any}
use Rattle.protocol.specs.World.{Entry}
use Rattle.cache.specs.declared.index.Hint.{Hint}
use Rattle.cache.specs.Hashes.{hash_of}

abbrev pub hash_in : Hint → ℕ
hash_in x = x.hash

abbrev pub is_hint : ℕ → ℕ → Hint → Bool
is_hint h i x = x.hash == h && x.place == i

abbrev pub hinted : ℕ → ℕ → List Hint → Bool
hinted h i xs = any (is_hint h i) xs

abbrev pub hash_at : List Hint → ℕ → ℕ
hash_at xs k = hash_in (slice_index_or xs k (record { hash = 0; place = 0 }))

abbrev pub place_on : List Hint → ℕ → ℕ
place_on xs k = (get_or xs k (record { hash = 0; place = 0 })).place

-- in the order of their hashes
abbrev pub Rising : List Hint → Type 0
Rising xs = (k : ℕ) → k + 1 < length xs → hash_at xs k ≤ hash_at xs (k + 1)

-- what stands past the end of a list of entries
abbrev pub nobody : Entry
nobody = record { apex = []; name = []; kind = 0; word = record { said = Empty; ttl = 0 }; heard = 0; id = 0; server = [] }

abbrev pub hash_for : Entry → ℕ
hash_for e = hash_of e.apex e.name e.kind

-- every entry has its hint
abbrev pub Covers : List Hint → List Entry → Type 0
Covers xs es = (i : ℕ) → i < length es → hinted (hash_for (slice_index_or es i nobody)) i xs ≡ true
