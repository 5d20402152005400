use Rattle.std.proofs.Common.{Ok, refl, ◌∙◌}
use Rattle.std.proofs.lemmas.Result.{err_from_is_err_and}
use Rattle.resolver.specs.Hears.{response_of}
use Rattle.resolver.specs.Resolvers.{rules_for, state_of}
use Rattle.resolver.proofs.Hearing.{heard_is}
use Rattle.resolver.proofs.Running.{heard_goes}
use Rattle.resolver.proofs.resolver.Resolver.hear.Goals as goal

pub returns-in_err-pending-clause-done : goal.returns-in_err-pending-clause-done
returns-in_err-pending-clause-done c =
    let self = c.args.self.now in
    let p = err_from_is_err_and c.from_residual.result c.from_residual.ensures.1 in
    rw (p.1, p.2) (heard_is (rules_for self) (response_of c.args.response) (state_of self) _ c.in_err-pending.ensures, refl)

pub returns-clause-done : goal.returns-clause-done
returns-clause-done c =
    let self = c.args.self.now in
    heard_is (rules_for self) (response_of c.args.response) (state_of self) _ (c.in_ok-pending.ensures ∙ c.remember.ensures.done)

pub returns-clause-runs : goal.returns-clause-runs
returns-clause-runs c = heard_goes c.args.self.now _ (response_of c.args.response) (Ok c.remember.result) c.remember.ensures.roots (returns-clause-done c)
