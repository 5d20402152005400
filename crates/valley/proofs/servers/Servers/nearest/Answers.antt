use Rattle.std.proofs.Common.{inl, inr, ⊎_elim, arith}
use Rattle.std.proofs.lemmas.Bool.{cases_lt}
use Rattle.names.specs.Names.{labels}
use Rattle.valley.specs.Owning.{published_by}
use Rattle.valley.specs.Having.{had_in, kept_by, had}
use Rattle.valley.proofs.Nearest.{at_end}
use Rattle.valley.proofs.servers.Servers.nearest.Goals as goal

pub returns : goal.returns
returns c =
    let u = c.loop-lower.auto.lower-end in
    let t = c.loop-lower-test.false in
    let i = c.loop-lower.invariant in
    at_end (had c.args.now.0 (published_by c.args.owners.now) (kept_by c.args.self.now) (labels c.args.apex.now)) c.loop-lower.lower c.args.server (had_in c.loop-lower.nearest) i.nearest (omega arith)
    (⊎_elim (λ l. inl (u (omega arith))) (λ l. inr (i.begun (omega arith))) (cases_lt 0 c.args.server))
