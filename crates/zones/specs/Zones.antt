-- What a `Zone` and a `Reply` stand for.
use Rattle.std.specs.Prelude.{◌≡◌, ℕ, ◌-◌, min, Bool, true, false, ◌⊎◌, List, map, Ok, Err, vec_items, vec_len, vec_capacity, Vec, Result}
use Rattle.names.specs.declared.fault.Fault.{Fault}
use Rattle.names.specs.declared.fault.Fault.TheVariants.{NoMemory}
use Rattle.names.specs.Names.{labels}
use Rattle.zones.specs.declared.zone.Zone as declared
use Rattle.zones.specs.declared.sets.SortedSets.{SortedSets}
use Rattle.zones.specs.declared.cuts.Cuts.{Cuts}
use Rattle.zones.specs.declared.reply.Reply.{Reply}
use Rattle.zones.specs.declared.reply.Reply.TheVariants as rust
use Rattle.meaning.specs.Model as model
use Rattle.meaning.specs.Says as says
use Rattle.records.specs.Sets.{set_of}

abbrev pub sets_of : SortedSets → List model.Set
sets_of s = map set_of (vec_items s.sets)

-- how many more can be put in without asking for memory
abbrev pub free_in : {A Z : Type 0} → Vec A Z → ℕ
free_in v = vec_capacity v - vec_len v

abbrev pub free_sets : SortedSets → ℕ
free_sets s = min (free_in s.sets) (free_in s.fronts)

abbrev pub cuts_in : Cuts → List (List (List ℕ))
cuts_in c = map labels (vec_items c.names)

abbrev pub zone_of : declared.Zone → model.Zone
zone_of z = record {
  apex = labels z.sets.apex;
  serial = z.serial.number;
  negative = z.times.negative.0;
  refresh = z.times.refresh.0;
  expire = z.times.expire.0;
  sets = sets_of z.sets;
}

abbrev pub free : declared.Zone → ℕ
free z = min (free_sets z.sets) (free_in z.cuts.names)

abbrev pub zone_from : List (List ℕ) → ℕ → ℕ → ℕ → ℕ → List model.Set → model.Zone
zone_from a n x y w ss = record { apex = a; serial = n; negative = x; refresh = y; expire = w; sets = ss }

abbrev pub speaker_of : Reply → says.Speaker
speaker_of (rust.Data s) = says.BySet (set_of s.now)
speaker_of (rust.Alias s) = says.ByAlias (set_of s.now)
speaker_of (rust.Referral s) = says.ByDelegation (set_of s.now)
speaker_of rust.NoData = says.NoData
speaker_of rust.NoName = says.NoName

abbrev pub tells_data : says.Speaker → Bool
tells_data (says.ByDelegation s) = false
tells_data (says.BySet s) = true
tells_data (says.ByAlias s) = false
tells_data says.NoData = false
tells_data says.NoName = false

abbrev pub tells_nothing : says.Speaker → Bool
tells_nothing (says.ByDelegation s) = false
tells_nothing (says.BySet s) = false
tells_nothing (says.ByAlias s) = false
tells_nothing says.NoData = false
tells_nothing says.NoName = true

abbrev pub with_sets : model.Zone → List model.Set → model.Zone
with_sets z ss = record { apex = z.apex; serial = z.serial; negative = z.negative; refresh = z.refresh; expire = z.expire; sets = ss }

-- a set is put in as is due, or refused with the due fault or for want of memory, and the zone is as it was
abbrev pub Inserts : {A : Type 0} → Result (List model.Set) Fault → model.Zone → Result A Fault → model.Zone → Type 0
Inserts due before (Ok a) after = (ss : List model.Set) × (due ≡ Ok ss) × (after ≡ with_sets before ss)
Inserts due before (Err f) after = ((due ≡ Err f) ⊎ (f ≡ NoMemory)) × (after ≡ before)
