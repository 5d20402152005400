-- What a `Name` stands for: its labels from the root down.
use Rattle.std.specs.Prelude.{◌≡◌, ℕ, Bool, cond, List, [], ◌∷◌, ◌++◌, length, take, Some, None, Ok, Err, Option, Result}
use Rattle.names.specs.declared.fault.Fault.{Fault}
use Rattle.names.specs.declared.fault.Fault.TheVariants.{BadName}
use Rattle.names.specs.declared.name.Name.{Name}
use Rattle.names.specs.Labels.{proper}
use Rattle.names.specs.Layout.{pieces}

unfoldable pub labels : Name → List (List ℕ)
labels n = pieces 0 (take n.count n.ends) n.bytes

-- the name with these labels, if they keep the limits
abbrev pub name_of : List (List ℕ) → Result (List (List ℕ)) Fault
name_of ls = cond (proper ls) (Ok ls) (Err BadName)

-- what a call that gives a name gave, by its labels
abbrev pub given : Result Name Fault → Result (List (List ℕ)) Fault
given (Ok n) = Ok (labels n)
given (Err f) = Err f

-- all labels but the lowest; the root has no parent
abbrev pub parent_of : List (List ℕ) → Option (List (List ℕ))
parent_of [] = None
parent_of (l ∷ ls) = Some (take (length ls) (l ∷ ls))

-- a name, unless a label of it was bad
abbrev pub made : Bool → List (List ℕ) → Result (List (List ℕ)) Fault
made bad ls = cond bad (Err BadName) (Ok ls)

-- with one label more, unless it was refused before
abbrev pub one_more : Result (List (List ℕ)) Fault → List ℕ → Result (List (List ℕ)) Fault
one_more (Ok ls) l = name_of (ls ++ l ∷ [])
one_more (Err f) l = Err f

-- a call that changes a state does what is due, or refuses with the due fault and leaves the state
abbrev pub Does : {S A : Type 0} → Result S Fault → S → Result A Fault → S → Type 0
Does due before (Ok a) after = due ≡ Ok after
Does due before (Err f) after = (due ≡ Err f) × (after ≡ before)
