-- What a server has of a zone, and as of when.
use Rattle.std.specs.Prelude.{◌≡◌, ℕ, ◌+◌, ◌<◌, ◌≤◌, Bool, cond, ◌&&◌, ◌||◌, ◌==◌, List, map, None, Some, Option, vec_items, nat_le, nat_lt}
use Rattle.names.specs.Names.{labels}
use Rattle.meaning.specs.Model.{Zone}
use Rattle.meaning.specs.Says.{same}
use Rattle.protocol.specs.Lists.{first}
use Rattle.protocol.specs.Words.{Name, Word}
use Rattle.protocol.specs.World.{Version, current}
use Rattle.protocol.specs.Walks.{by_zone}
use Rattle.valley.specs.Owning.{version_at}
use Rattle.valley.specs.declared.servers.Copied.{Copied}
use Rattle.valley.specs.declared.servers.Keeping as rust
use Rattle.valley.specs.declared.servers.Servers.{Servers}

-- a version, and the moment as of which it is known to be what the owner says
pub record Had : Type 0 where
  pub moment : ℕ
  pub serial : ℕ

pub record Keeping : Type 0 where
  pub server : ℕ
  pub apex : Name
  pub copied : Option Had

abbrev pub had_of : Copied → Had
had_of c = record { moment = c.moment.0; serial = c.serial.number }

abbrev pub had_in : Option Copied → Option Had
had_in None = None
had_in (Some c) = Some (had_of c)

abbrev pub keeping_of : rust.Keeping → Keeping
keeping_of k = record { server = k.server; apex = labels k.apex; copied = had_in k.copied }

abbrev pub kept_by : Servers → List Keeping
kept_by s = map keeping_of (vec_items s.keepings)

abbrev pub is_by : ℕ → Name → Keeping → Bool
is_by s a k = k.server == s && same k.apex a

abbrev pub copy_in : Option Keeping → Option Had
copy_in None = None
copy_in (Some k) = k.copied

-- a server's copy, expired or not
abbrev pub copy_by : ℕ → Name → List Keeping → Option Had
copy_by s a ks = copy_in (first (is_by s a) ks)

-- a copy counts up to and including its moment and its own zone's expire
abbrev pub good : ℕ → ℕ → Option Zone → Option Zone
good now m None = None
good now m (Some z) = cond (nat_le now (m + z.expire)) (Some z) None

abbrev pub if_there : Had → Option Zone → Option Had
if_there h None = None
if_there h (Some z) = Some h

abbrev pub while_good : ℕ → List Version → Name → Option Had → Option Had
while_good now vs a None = None
while_good now vs a (Some h) = if_there h (good now h.moment (version_at a h.serial vs))

-- the owner has its zone as of now
abbrev pub as_of : ℕ → Option Zone → Option Had
as_of now None = None
as_of now (Some z) = Some (record { moment = now; serial = z.serial })

-- the first server has what the owners say now, another its copy
abbrev pub had : ℕ → List Version → List Keeping → Name → ℕ → Option Had
had now vs ks a s = cond (s == 1) (as_of now (current a vs)) (while_good now vs a (copy_by s a ks))

-- what the nearest server below a number has, where any has
abbrev pub IsNearest : (ℕ → Option Had) → ℕ → Option Had → Type 0
IsNearest f below None = (t : ℕ) → 1 ≤ t → t < below → f t ≡ None
IsNearest f below (Some h) = (s : ℕ) × (1 ≤ s) × (s < below) × (f s ≡ Some h) × ((t : ℕ) → s < t → t < below → f t ≡ None)

-- of an earlier moment, or an older version of the same
abbrev pub is_before : Had → Had → Bool
is_before h o = nat_lt h.moment o.moment || (h.moment == o.moment && nat_lt h.serial o.serial)

abbrev pub later_of : Option Had → Option Had → Option Had
later_of None o = o
later_of (Some h) None = Some h
later_of (Some h) (Some o) = cond (is_before h o) (Some o) (Some h)

-- a look: what the nearest server below has is taken, unless it is before what was there
abbrev pub Looked : (ℕ → Option Had) → ℕ → Option Had → Option Had → Type 0
Looked f s before after = (o : Option Had) × IsNearest f s o × (after ≡ later_of before o)

abbrev pub zone_had : ℕ → List Version → Name → Option Had → Option Zone
zone_had now vs a None = None
zone_had now vs a (Some h) = good now h.moment (version_at a h.serial vs)

-- after a look a server waits for the refresh of the zone that it has, or 5 seconds where it has none
abbrev pub wait_for : Option Zone → ℕ
wait_for None = 5
wait_for (Some z) = z.refresh

abbrev pub dated : ℕ → Option Word → Option (Word × ℕ)
dated m None = None
dated m (Some t) = Some (t, m)

abbrev pub word_had : List Version → Name → Name → ℕ → Option Had → Option (Word × ℕ)
word_had vs a q k None = None
word_had vs a q k (Some h) = dated h.moment (by_zone (version_at a h.serial vs) q k)

-- what a server says of a name and kind, and as of when it has the zone
abbrev pub told_by : ℕ → List Version → List Keeping → ℕ → Name → Name → ℕ → Option (Word × ℕ)
told_by now vs ks s a q k = word_had vs a q k (had now vs ks a s)
