use Rattle.std.proofs.Common.{ltb}
use Rattle.std.proofs.lemmas.Bool.{and_parts}
use Rattle.wire.specs.Responses.{response_of}
use Rattle.wire.proofs.Front.{response_put}
use Rattle.wire.proofs.Keeping.{response_kept}
use Rattle.wire.proofs.response.ResponsePacket.put.Goals as goal

pub returns-clause-put : goal.returns-clause-put
returns-clause-put c = response_put _ _ _ (response_of c.args.self.now) _ c.front.ensures.put c.what.ensures c.put.ensures.put

pub returns-clause-kept : goal.returns-clause-kept
returns-clause-kept c =
    let numbers = and_parts (ltb c.args.self.now.id.0 18446744073709551616) (ltb c.args.self.now.ttl.0 4294967296) c.front.ensures.kept in
    response_kept c.args.self.now numbers.0 numbers.1 c.put.ensures.kept
