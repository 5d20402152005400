-- What the code's packets stand for.
use Rattle.wire.specs.declared.packet.Packet as declared
use Rattle.wire.specs.declared.packet.Packet.TheVariants as rust
use Rattle.wire.specs.Given.{query_of}
use Rattle.wire.specs.Heads.{part_of}
use Rattle.wire.specs.Packets.{Packet, IsQuery, IsResponse, IsRequest, IsPart}
use Rattle.wire.specs.Requests.{request_of}
use Rattle.wire.specs.Responses.{response_of}

abbrev pub packet_of : declared.Packet → Packet
packet_of (rust.Query q) = IsQuery (query_of q)
packet_of (rust.Response r) = IsResponse (response_of r)
packet_of (rust.Request r) = IsRequest (request_of r)
packet_of (rust.Part p) = IsPart (part_of p)
