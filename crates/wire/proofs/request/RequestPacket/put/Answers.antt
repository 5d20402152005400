use Rattle.std.proofs.Common.{◌≡◌, true, ltb, rules}
use Rattle.wire.proofs.Keeping.{request_kept}
use Rattle.wire.proofs.request.RequestPacket.put.Goals as goal

pub returns-clause-kept : goal.returns-clause-kept
returns-clause-kept c =
    let id : ltb c.args.self.now.id.0 18446744073709551616 ≡ true = search rules in
    let known : ltb c.args.self.now.known 18446744073709551616 ≡ true = search rules in
    request_kept c.args.self.now id known
