-- What the code's times and old zone stand for.
use Rattle.std.specs.Prelude.{Ok, Err, Option, Result}
use Rattle.std.specs.Borrow.{Bor}
use Rattle.std.specs.Option.{option_map}
use Rattle.names.specs.declared.fault.Fault.{Fault}
use Rattle.zones.specs.declared.zone.Times as declared
use Rattle.zones.specs.declared.zone.Zone.{Zone}
use Rattle.zones.specs.Zones.{zone_of}
use Rattle.meaning.specs.Model as model
use Rattle.zonetext.specs.Texts.{Times}

abbrev pub times_for : declared.Times → Times
times_for t = record { negative = t.negative.0; refresh = t.refresh.0; expire = t.expire.0 }

abbrev pub times_given : Result declared.Times Fault → Result Times Fault
times_given (Ok t) = Ok (times_for t)
times_given (Err f) = Err f

abbrev pub old_zone : Option (Bor Zone) → Option model.Zone
old_zone o = option_map (λ z. zone_of z.now) o
