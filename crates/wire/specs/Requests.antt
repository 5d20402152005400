-- What the code's requests stand for.
use Rattle.std.specs.Prelude.{Ok, Err, Result}
use Rattle.names.specs.declared.fault.Fault.{Fault}
use Rattle.names.specs.Names.{labels}
use Rattle.wire.specs.declared.request.RequestPacket.{RequestPacket}
use Rattle.wire.specs.Packets.{Request}

abbrev pub request_of : RequestPacket → Request
request_of r = record { id = r.id.0; apex = labels r.apex; known = r.known }

abbrev pub request_given : Result RequestPacket Fault → Result Request Fault
request_given (Ok r) = Ok (request_of r)
request_given (Err f) = Err f
