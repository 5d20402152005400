-- Kinds and serials as they are made from numbers.
use Rattle.std.specs.Prelude.{ℕ, cond, Ok, Err, Result}
use Rattle.names.specs.declared.fault.Fault.{Fault}
use Rattle.names.specs.declared.fault.Fault.TheVariants.{BadName, StaleSerial}
use Rattle.records.specs.declared.types.Kind.{Kind}
use Rattle.records.specs.declared.types.Serial.{Serial}
use Rattle.meaning.specs.Model.{is_kind, is_serial}

abbrev pub kind_of : ℕ → Result ℕ Fault
kind_of n = cond (is_kind n) (Ok n) (Err BadName)

abbrev pub kind_given : Result Kind Fault → Result ℕ Fault
kind_given (Ok k) = Ok k.number
kind_given (Err f) = Err f

abbrev pub serial_of : ℕ → Result ℕ Fault
serial_of n = cond (is_serial n) (Ok n) (Err StaleSerial)

abbrev pub serial_given : Result Serial Fault → Result ℕ Fault
serial_given (Ok s) = Ok s.number
serial_given (Err f) = Err f
