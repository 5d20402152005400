-- The number of each fault, as packets, scripts and output give it.
use Rattle.std.specs.Prelude.{◌≡◌, ℕ, ◌≤◌, List, ◌++◌, codes, Some, None, Option}
use Rattle.std.specs.Fmt.{decimal}
use Rattle.names.specs.declared.fault.Fault.{Fault}
use Rattle.names.specs.declared.fault.Fault.TheVariants.{Malformed, BadName, BadData, Misplaced, Conflict, StaleSerial, TooMuch, NotPending, WrongApex, BadTransfer, CacheFull, NoMemory}

-- want of memory says nothing of the input, so it has no number
abbrev pub number_of : Fault → Option ℕ
number_of Malformed = Some 1
number_of BadName = Some 2
number_of BadData = Some 3
number_of Misplaced = Some 4
number_of Conflict = Some 5
number_of StaleSerial = Some 6
number_of TooMuch = Some 7
number_of NotPending = Some 8
number_of WrongApex = Some 9
number_of BadTransfer = Some 10
number_of CacheFull = Some 11
number_of NoMemory = None

-- as it is printed
abbrev pub numbered : Option ℕ → List ℕ
numbered (Some n) = codes "fault " ++ decimal n
numbered None = codes "out of memory"

abbrev pub fault_text : Fault → List ℕ
fault_text f = numbered (number_of f)

pub record FaultLaws : Type 0 where
  -- a number names one fault
  pub distinct : (f g : Fault) → number_of f ≡ number_of g → f ≡ g
  pub bounds : (f : Fault) (n : ℕ) → number_of f ≡ Some n → (1 ≤ n) × (n ≤ 11)
