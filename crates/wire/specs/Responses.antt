-- What the code's responses stand for.
use Rattle.std.specs.Prelude.{Ok, Err, Result}
use Rattle.names.specs.declared.fault.Fault.{Fault}
use Rattle.names.specs.Names.{labels}
use Rattle.wire.specs.declared.response.ResponsePacket.{ResponsePacket}
use Rattle.wire.specs.Packets.{Response}
use Rattle.wire.specs.Tellings.{told_of}

abbrev pub response_of : ResponsePacket → Response
response_of r = record { id = r.id.0; apex = labels r.apex; ttl = r.ttl.0; told = told_of r.told }

abbrev pub response_given : Result ResponsePacket Fault → Result Response Fault
response_given (Ok r) = Ok (response_of r)
response_given (Err f) = Err f
