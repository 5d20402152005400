-- What it is to take something off the front of what is unread.
use Rattle.std.specs.Prelude.{◌≡◌, ℕ, List, Some, None, Option, Result}
use Rattle.std.specs.Borrow.{Bor}
use Rattle.names.specs.declared.fault.Fault.{Fault}
use Rattle.names.specs.declared.name.Name.{Name}
use Rattle.names.specs.Names.{name_of, given}
use Rattle.names.specs.Wire.{wire}
use Rattle.wire.specs.declared.what.What.{What}
use Rattle.wire.specs.Whats.{number_of}
use Rattle.wire.specs.declared.fields.Fields.{Fields}

abbrev pub unread : Fields → List ℕ
unread f = f.rest.now

-- what is due is taken, or nothing is and all stays
abbrev pub Takes : {A X : Type 0} → (A → X → Type 0) → Option (A × List ℕ) → List ℕ → Option X → List ℕ → Type 0
Takes Is due before None after = (due ≡ None) × (after ≡ before)
Takes {A} Is due before (Some x) after = (y : A) × (due ≡ Some (y, after)) × Is y x

abbrev pub TakesNumber : Option (ℕ × List ℕ) → List ℕ → Option ℕ → List ℕ → Type 0
TakesNumber due before None after = (due ≡ None) × (after ≡ before)
TakesNumber due before (Some n) after = due ≡ Some (n, after)

-- the bytes of a whole list
abbrev pub IsList : List (List ℕ) → Bor (List ℕ) → Type 0
IsList ps s = s.now ≡ wire ps

-- the name of these labels, if they make one
abbrev pub IsName : List (List ℕ) → Result Name Fault → Type 0
IsName ls r = given r ≡ name_of ls

abbrev pub TakesWhat : Option (ℕ × List ℕ) → List ℕ → Option What → List ℕ → Type 0
TakesWhat due before None after = (due ≡ None) × (after ≡ before)
TakesWhat due before (Some w) after = due ≡ Some (number_of w, after)
