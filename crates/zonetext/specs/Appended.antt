-- What it is to write behind what is there.
use Rattle.std.specs.Prelude.{◌≡◌, ℕ, Bool, true, false, ◌⊎◌, List, ◌++◌, Ok, Err, Result}
use Rattle.names.specs.declared.fault.Fault.{Fault}
use Rattle.names.specs.declared.fault.Fault.TheVariants.{NoMemory, BadData}

-- what is due, or memory ended
abbrev pub Appends : {A : Type 0} → List ℕ → List ℕ → Result A Fault → List ℕ → Type 0
Appends before due (Ok a) after = after ≡ before ++ due
Appends before due (Err f) after = f ≡ NoMemory

-- what is due, if a text can hold it
abbrev pub AppendsIf : {A : Type 0} → Bool → List ℕ → List ℕ → Result A Fault → List ℕ → Type 0
AppendsIf held before due (Ok a) after = (held ≡ true) × (after ≡ before ++ due)
AppendsIf held before due (Err f) after = ((f ≡ BadData) × (held ≡ false)) ⊎ (f ≡ NoMemory)
