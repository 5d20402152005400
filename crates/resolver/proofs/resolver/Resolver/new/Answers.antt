use Rattle.std.proofs.Common.{[], map, sym, subst}
use Rattle.machine.specs.Machine.{State}
use Rattle.machine.specs.Refine.{Joint, starts}
use Rattle.questions.specs.Tries.{question_of}
use Rattle.protocol.specs.World.{rules_of}
use Rattle.records.specs.Contents.{bytes_of}
use Rattle.resolver.proofs.resolver.Resolver.new.Goals as goal

pub returns-clause-runs : goal.returns-clause-runs
returns-clause-runs c =
    subst (λ (s : State). Joint (rules_of (map bytes_of c.args.roots.items)) s [])
    (sym (λ i. record { now = 0; pending = c.in_ok-pending.ensures i; cache = c.in_ok-cache.ensures i; walks = map question_of (c.in_ok-walks.ensures i) })) starts
