-- What a `Joining` stands for, and what its calls do.
use Rattle.std.specs.Prelude.{◌≡◌, ℕ, ◌⊎◌, Bool, true, false, List, Ok, Err, Result, vec_items}
use Rattle.names.specs.declared.fault.Fault.{Fault}
use Rattle.names.specs.declared.fault.Fault.TheVariants.{Misplaced, Conflict, NoMemory}
use Rattle.meaning.specs.Model.{Set, Zone}
use Rattle.zones.specs.Zones.{zone_of, with_sets}
use Rattle.zones.specs.declared.zone.Zone as zones
use Rattle.wire.specs.Parts.{Part}
use Rattle.transfers.specs.declared.joining.Joining as declared
use Rattle.transfers.specs.Joining.{insert_all, added_all, joined, Joining, is_complete, with_part, zone_in}

-- a transfer as its zone makes it
abbrev pub joining_from : Zone → ℕ → List Bool → Joining
joining_from z moment there = record {
  apex = z.apex;
  serial = z.serial;
  moment = moment;
  times = record { negative = z.negative; refresh = z.refresh; expire = z.expire };
  there = there;
  sets = z.sets;
}

abbrev pub joining_of : declared.Joining → Joining
joining_of j = joining_from (zone_of j.zone) j.moment.0 (vec_items j.there)

-- ---- judging the sets of a part

-- all sets may come in, or the lowest fault of all is told
abbrev pub Judges : {A : Type 0} → List (List ℕ) → List Set → List Set → Result A Fault → Type 0
Judges apex old new (Ok a) = joined apex old new ≡ Ok (insert_all new old)
Judges apex old new (Err f) = joined apex old new ≡ Err f

abbrev pub is_misplaced : {A : Type 0} → Result A Fault → Bool
is_misplaced (Err Misplaced) = true
is_misplaced _ = false

abbrev pub is_conflict : {A : Type 0} → Result A Fault → Bool
is_conflict (Err Conflict) = true
is_conflict _ = false

-- ---- putting them in

-- memory ends before the first or not at all
abbrev pub PutsAll : {A : Type 0} → Zone → List Set → Result A Fault → Zone → Type 0
PutsAll before new (Ok a) after = (ss : List Set) × (added_all before.apex before.sets new ≡ Ok ss) × (after ≡ with_sets before ss)
PutsAll before new (Err f) after = (added_all before.apex before.sets new ≡ Err f) ⊎ ((f ≡ NoMemory) × (after ≡ before))

abbrev pub with_there : Joining → List Bool → Joining
with_there j bs = record { apex = j.apex; serial = j.serial; moment = j.moment; times = j.times; there = bs; sets = j.sets }

abbrev pub Puts : {A : Type 0} → Part → Joining → Result A Fault → Joining → Type 0
Puts p before (Ok a) after = (ss : List Set) × (added_all before.apex before.sets p.sets ≡ Ok ss) × (after ≡ with_part before p ss)
Puts p before (Err f) after = (added_all before.apex before.sets p.sets ≡ Err f) ⊎ ((f ≡ NoMemory) × (after ≡ before))

-- ---- the calls

-- a part does what is due, or is refused with the due fault or for want of memory, and all is as it was
abbrev pub Takes : {A : Type 0} → Result Joining Fault → Joining → Result A Fault → Joining → Type 0
Takes due before (Ok a) after = due ≡ Ok after
Takes due before (Err f) after = ((due ≡ Err f) ⊎ (f ≡ NoMemory)) × (after ≡ before)

abbrev pub Finishes : Joining → Result zones.Zone declared.Joining → Type 0
Finishes j (Ok z) = (is_complete j.there ≡ true) × (zone_of z ≡ zone_in j)
Finishes j (Err k) = (is_complete j.there ≡ false) × (joining_of k ≡ j)
