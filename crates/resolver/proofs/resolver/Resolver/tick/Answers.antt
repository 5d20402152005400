use Rattle.std.proofs.Common.{◌≡◌, ◌+◌, ◌∷◌, rules}
use Rattle.questions.specs.Tables.{table_of}
use Rattle.resolver.specs.Resolvers.{roots_of, state_of}
use Rattle.protocol.specs.World.{Tick}
use Rattle.machine.specs.Refine.{ticks}
use Rattle.resolver.proofs.Ticking.{ticked}
use Rattle.resolver.proofs.Running.{moved}
use Rattle.resolver.proofs.resolver.Resolver.tick.Goals as goal

pub returns-clause-state : goal.returns-clause-state
returns-clause-state c =
    let next : c.in_ok-checked_add.field-0 ≡ (state_of c.args.self.now).now + 1 = search rules in
    ticked (roots_of c.args.self.now) (state_of c.args.self.now) (state_of c.count_expired.new.self) _ (table_of c.expire.new.self) next c.count_expired.ensures.state c.expire.ensures

pub returns-clause-runs : goal.returns-clause-runs
returns-clause-runs c =
    let self = c.args.self.now in
    λ es j. moved (roots_of self) _ _ _ (Tick ∷ es) c.count_expired.ensures.roots (returns-clause-state c) (ticks j)
