-- What a `RecordSet` stands for.
use Rattle.std.specs.Prelude.{ℕ, cond, List, Ok, Err, Result}
use Rattle.names.specs.declared.fault.Fault.{Fault}
use Rattle.names.specs.declared.fault.Fault.TheVariants.{BadData}
use Rattle.names.specs.Names.{labels}
use Rattle.records.specs.declared.set.RecordSet.{RecordSet}
use Rattle.records.specs.Contents.{content_of}
use Rattle.meaning.specs.Model.{Content, fits, Set}

abbrev pub set_of : RecordSet → Set
set_of s = record { name = labels s.name; kind = s.kind.number; ttl = s.ttl.0; content = content_of s.content }

-- the set of these parts, if its data fit its kind
abbrev pub set_from : List (List ℕ) → ℕ → ℕ → Content → Result Set Fault
set_from n k t c = cond (fits k c) (Ok (record { name = n; kind = k; ttl = t; content = c })) (Err BadData)

abbrev pub set_given : Result RecordSet Fault → Result Set Fault
set_given (Ok s) = Ok (set_of s)
set_given (Err f) = Err f
