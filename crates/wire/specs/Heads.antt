-- What the code's parts stand for, and what it is to take the head of one.
use Rattle.std.specs.Prelude.{◌≡◌, ℕ, cond, List, map, vec_items, Some, None, Ok, Err, Option, Result}
use Rattle.names.specs.declared.fault.Fault.{Fault}
use Rattle.names.specs.declared.fault.Fault.TheVariants.{StaleSerial}
use Rattle.meaning.specs.Model.{is_serial}
use Rattle.records.specs.Sets.{set_of}
use Rattle.zones.specs.declared.zone.Times as zones
use Rattle.records.specs.declared.set.RecordSet.{RecordSet}
use Rattle.wire.specs.declared.part.PartHead.{PartHead}
use Rattle.wire.specs.declared.part.PartPacket.{PartPacket}
use Rattle.wire.specs.declared.part.reading.HeadFields.{HeadFields}
use Rattle.wire.specs.Shapes.{Times, Head}
use Rattle.wire.specs.Parts.{Part}

abbrev pub times_of : zones.Times → Times
times_of t = record { negative = t.negative.0; refresh = t.refresh.0; expire = t.expire.0 }

abbrev pub head_of : PartHead → Head
head_of h = record { id = h.id.0; serial = h.serial.number; moment = h.moment.0; times = times_of h.times; part = h.part; of = h.of }

abbrev pub head_given : Result PartHead Fault → Result Head Fault
head_given (Ok h) = Ok (head_of h)
head_given (Err f) = Err f

-- the part of this head and these sets
abbrev pub part_with : PartHead → List RecordSet → Part
part_with h ss = record { head = head_of h; sets = map set_of ss }

abbrev pub part_of : PartPacket → Part
part_of p = part_with p.head (vec_items p.sets)

-- a head that was read, and not judged yet
abbrev pub fields_of : HeadFields → Head
fields_of h = record { id = h.id; serial = h.serial; moment = h.moment; times = times_of h.times; part = h.part; of = h.of }

-- a serial is never 0
abbrev pub head_in : Head → Result Head Fault
head_in h = cond (is_serial h.serial) (Ok h) (Err StaleSerial)

abbrev pub TakesTimes : Option (Times × List ℕ) → Option zones.Times → List ℕ → Type 0
TakesTimes due None after = due ≡ None
TakesTimes due (Some t) after = due ≡ Some (times_of t, after)

abbrev pub TakesHead : Option (Head × List ℕ) → Option HeadFields → List ℕ → Type 0
TakesHead due None after = due ≡ None
TakesHead due (Some h) after = due ≡ Some (fields_of h, after)
