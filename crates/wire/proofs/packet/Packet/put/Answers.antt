use Rattle.std.proofs.Common.{sym, subst}
use Rattle.wire.specs.Laws.{IsReadAgain}
use Rattle.wire.specs.Readings.{packet_of}
use Rattle.wire.proofs.Keeping.{query_again, response_again, request_again}
use Rattle.wire.proofs.packet.Packet.put.Goals as goal

pub returns-in-Query-clause-read : goal.returns-in-Query-clause-read
returns-in-Query-clause-read c = subst (λ p. IsReadAgain (packet_of p)) (sym c.in-Query.is) (query_again _ c.put.ensures.kept)

pub returns-in-Response-clause-read : goal.returns-in-Response-clause-read
returns-in-Response-clause-read c = subst (λ p. IsReadAgain (packet_of p)) (sym c.in-Response.is) (response_again _ c.put-in-Response.ensures.kept)

pub returns-in-Request-clause-read : goal.returns-in-Request-clause-read
returns-in-Request-clause-read c = subst (λ p. IsReadAgain (packet_of p)) (sym c.in-Request.is) (request_again _ c.put-in-Request.ensures.kept)
