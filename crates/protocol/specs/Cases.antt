-- The worked cases about walks, times and copies, in one table with those about one zone.
use Rattle.std.specs.Prelude.{◌≡◌, ℕ, Bool, true, false, List, [], ◌∷◌, map, length, Some, None, Option}
use Rattle.std.specs.List.{AllByRecursion}
use Rattle.meaning.specs.Model.{Addresses, Zone}
use Rattle.meaning.specs.Speech.{Found}
use Rattle.meaning.specs.Cases as one-zone
use Rattle.meaning.specs.Cases.{upperton, server, address, alias, zone, rescue, root, a_name, ring}
use Rattle.protocol.specs.Words.{Name, Word, Told}
use Rattle.protocol.specs.World.{rules_of, Version, Copy, Query, Entry, World, counts, copy_says}
use Rattle.protocol.specs.Walks.{End, Shows, TooLong, meant, left}

-- a row: what is asked of which definition, and what it answers
pub data Case : Type 0 where
  -- what one zone says
  OfZone : one-zone.Case → Case
  -- what a question means where these zones are published, and by how many words
  Means : (zones : List Zone) → (name : Name) → (kind : ℕ) → (end : End) → (words : ℕ) → Case
  -- whether an entry that was heard then, for so long, counts at a moment, and what is left of its time
  Counts : (heard ttl now : ℕ) → (answer : Bool) → (rest : ℕ) → Case
  -- whether a server with a copy taken then, good for so long, responds at a moment
  Responds : (taken expire now : ℕ) → (answer : Option Word) → Case

abbrev versions : List Zone → List Version
versions [] = []
versions (z ∷ zs) = record { moment = 0; zone = z } ∷ versions zs

abbrev published : List Zone → World
published zs = record { now = 0; published = versions zs; offered = []; copies = []; sent = []; pending = []; responses = []; cache = [] }

abbrev word : ℕ → Word
word ttl = record { said = Found (Addresses (server 9 ∷ [])); ttl = ttl }

abbrev heard_at : ℕ → ℕ → Entry
heard_at h ttl = record { apex = upperton; name = rescue; kind = 1; word = word ttl; heard = h; id = 1; server = server 1 }

abbrev copy_of : ℕ → ℕ → Copy
copy_of t x = record {
  server = server 1;
  zone = record { apex = upperton; serial = 1; negative = 60; refresh = 600; expire = x; sets = address rescue ∷ [] };
  taken = t;
}

abbrev query : Query
query = record { id = 1; server = server 1; apex = upperton; name = rescue; kind = 1; asked = 0 }

abbrev pub Holds : Case → Type 0
Holds (OfZone c) = one-zone.Holds c
Holds (Means zs q k e n) = ((meant (published zs) q k).end ≡ e) × (length (meant (published zs) q k).words ≡ n)
Holds (Counts h t now b n) = (counts (rules_of []) now (heard_at h t) ≡ b) × (left (rules_of []) now (heard_at h t) ≡ n)
Holds (Responds t x now o) = copy_says now query (Some (copy_of t x)) ≡ o

abbrev village : Zone
village = zone upperton (address rescue ∷ [])

abbrev pub cases : List Case
cases =
    -- asked for rescue.upperton: two steps, data
    Means (root ∷ village ∷ []) rescue 1 (Shows (Told (Addresses (server 9 ∷ [])))) 2
    -- two aliases in a ring are too long
    ∷ Means (root ∷ ring ∷ []) a_name 1 TooLong 24
    -- heard at 100 for 3,600: it counts up to and including 3,700; at 3,000 there are 700 left
    ∷ Counts 100 3600 3000 true 700
    ∷ Counts 100 3600 3700 true 0
    ∷ Counts 100 3600 3701 false 0
    -- a time above a day counts as a day
    ∷ Counts 0 100000 86400 true 0
    ∷ Counts 0 100000 86401 false 0
    -- a copy of 50 that is good for 600 answers at 650 and not at 651
    ∷ Responds 50 600 650 (Some (word 3600))
    ∷ Responds 50 600 651 None
    ∷ map OfZone one-zone.cases

abbrev pub CasesHold : Type 0
CasesHold = AllByRecursion Holds cases
