-- What owners published, newest first, as the world has it.
use Rattle.std.specs.Prelude.{◌≡◌, ℕ, Bool, true, false, ◌&&◌, ◌⊎◌, ◌==◌, ◌∷◌, List, map, Ok, Err, None, Some, Option, Result, vec_items}
use Rattle.names.specs.declared.fault.Fault.{Fault}
use Rattle.names.specs.declared.fault.Fault.TheVariants.{NoMemory, StaleSerial}
use Rattle.meaning.specs.Model.{Zone}
use Rattle.meaning.specs.Says.{same}
use Rattle.zones.specs.Zones.{zone_of}
use Rattle.protocol.specs.Lists.{first}
use Rattle.protocol.specs.Words.{Name}
use Rattle.protocol.specs.World.{Version, current, rises}
use Rattle.valley.specs.declared.owners.Version as rust
use Rattle.valley.specs.declared.owners.Owners.{Owners}

abbrev pub version_of : rust.Version → Version
version_of v = record { moment = v.moment.0; zone = zone_of v.zone }

abbrev pub published_by : Owners → List Version
published_by o = map version_of (vec_items o.versions)

abbrev pub is_of : Name → Version → Bool
is_of a v = same v.zone.apex a

abbrev pub is_version : Name → ℕ → Version → Bool
is_version a n v = same v.zone.apex a && v.zone.serial == n

abbrev pub zone_in : Option Version → Option Zone
zone_in None = None
zone_in (Some v) = Some v.zone

-- the version of a serial
abbrev pub version_at : Name → ℕ → List Version → Option Zone
version_at a n vs = zone_in (first (is_version a n) vs)

-- a zone is published if its serial rises, and only then; a refusal leaves all as it was
abbrev pub Publishes : {A : Type 0} → ℕ → Zone → List Version → Result A Fault → List Version → Type 0
Publishes now z before (Ok a) after = (rises z (current z.apex before) ≡ true) × (after ≡ record { moment = now; zone = z } ∷ before)
Publishes now z before (Err f) after = ((f ≡ NoMemory) ⊎ ((f ≡ StaleSerial) × (rises z (current z.apex before) ≡ false))) × (after ≡ before)
