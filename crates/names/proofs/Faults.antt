-- Each number names one fault.
use Rattle.std.proofs.Common.{◌≡◌, ℕ, ◌≤◌, cond, eqb, Some, None, Option, sym, refl, ap, ◌∙◌, arith}
use Rattle.names.specs.declared.fault.Fault.{Fault}
use Rattle.names.specs.declared.fault.Fault.TheVariants.{Malformed, BadName, BadData, Misplaced, Conflict, StaleSerial, TooMuch, NotPending, WrongApex, BadTransfer, CacheFull, NoMemory}
use Rattle.names.specs.Faults.{number_of, FaultLaws}

-- the fault of a number
abbrev of_number : ℕ → Fault
of_number n = cond (eqb n 1) Malformed (cond (eqb n 2) BadName (cond (eqb n 3) BadData (cond (eqb n 4) Misplaced (cond (eqb n 5) Conflict (cond (eqb n 6) StaleSerial (cond (eqb n 7) TooMuch (cond (eqb n 8) NotPending (cond (eqb n 9) WrongApex (cond (eqb n 10) BadTransfer CacheFull)))))))))

abbrev back : Option ℕ → Fault
back None = NoMemory
back (Some n) = of_number n

there_and_back : (f : Fault) → back (number_of f) ≡ f
there_and_back Malformed = refl
there_and_back BadName = refl
there_and_back BadData = refl
there_and_back Misplaced = refl
there_and_back Conflict = refl
there_and_back StaleSerial = refl
there_and_back TooMuch = refl
there_and_back NotPending = refl
there_and_back WrongApex = refl
there_and_back BadTransfer = refl
there_and_back CacheFull = refl
there_and_back NoMemory = refl

-- the number, or 1 where there is none
abbrev number_or : Option ℕ → ℕ
number_or None = 1
number_or (Some n) = n

bounded : (f : Fault) → (1 ≤ number_or (number_of f)) × (number_or (number_of f) ≤ 11)
bounded Malformed = (omega arith, omega arith)
bounded BadName = (omega arith, omega arith)
bounded BadData = (omega arith, omega arith)
bounded Misplaced = (omega arith, omega arith)
bounded Conflict = (omega arith, omega arith)
bounded StaleSerial = (omega arith, omega arith)
bounded TooMuch = (omega arith, omega arith)
bounded NotPending = (omega arith, omega arith)
bounded WrongApex = (omega arith, omega arith)
bounded BadTransfer = (omega arith, omega arith)
bounded CacheFull = (omega arith, omega arith)
bounded NoMemory = (omega arith, omega arith)

pub fault_laws : FaultLaws
fault_laws = record {
  distinct = λ f g h. sym (there_and_back f) ∙ ap back h ∙ there_and_back g;
  bounds = λ f n h. let b = bounded f in let e = ap number_or h in (omega arith, omega arith);
}
