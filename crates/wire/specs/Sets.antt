-- What it is to take a record set off the front of what is unread.
use Rattle.std.specs.Prelude.{◌≡◌, ℕ, List, map, vec_items, Some, None, Ok, Err, Vec, Option, Result}
use Rattle.names.specs.declared.fault.Fault.{Fault}
use Rattle.meaning.specs.Model.{Set}
use Rattle.records.specs.declared.set.RecordSet.{RecordSet}
use Rattle.records.specs.Sets.{set_of}
use Rattle.wire.specs.Given.{Reads}
use Rattle.wire.specs.Parts.{set_in}
use Rattle.wire.specs.Shapes.{SetShape, cut_set}

abbrev pub sets_of : {Z : Type 0} → Vec RecordSet Z → List Set
sets_of v = map set_of (vec_items v)

abbrev pub sets_given : {Z : Type 0} → Result (Vec RecordSet Z) Fault → Result (List Set) Fault
sets_given (Ok v) = Ok (sets_of v)
sets_given (Err f) = Err f

-- what has a set's shape is taken, and judged
abbrev pub TakesSet : List ℕ → Option (Result RecordSet Fault) → List ℕ → Type 0
TakesSet before None after = cut_set before ≡ None
TakesSet before (Some r) after = (s : SetShape) × (cut_set before ≡ Some (s, after)) × Reads set_of (set_in s) r
