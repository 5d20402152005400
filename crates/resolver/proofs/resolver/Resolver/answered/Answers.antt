use Rattle.std.proofs.Common.{◌≡◌, nat_eq, Some, sym, ◌∙◌, rules}
use Rattle.std.proofs.lemmas.Bool.{not-true, not-false}
use Rattle.std.proofs.lemmas.Result.{err_from_is_err_and}
use Rattle.names.specs.Names.{labels}
use Rattle.meaning.proofs.Rules.{told_same}
use Rattle.protocol.specs.Lists.{first}
use Rattle.machine.specs.Machine.{Pending}
use Rattle.questions.specs.Queries.{pending_of}
use Rattle.questions.specs.Tables.{table_of}
use Rattle.resolver.specs.Hears.{response_of}
use Rattle.resolver.specs.Resolvers.{rules_for, state_of}
use Rattle.resolver.proofs.Hearing.{wrong_apex, by_check}
use Rattle.resolver.proofs.resolver.Resolver.answered.Goals as goal

pub returns-then-ne : goal.returns-then-ne
returns-then-ne c =
    let self = c.args.self.now in
    let x = c.in_ok-pending.pending in
    let found : first (λ (p : Pending). nat_eq p.query.id c.args.response.now.id.0) (table_of self.pending) ≡ Some (pending_of x) = search rules in
    wrong_apex (rules_for self) (state_of self) (response_of c.args.response.now) (pending_of x) _ found
    (sym (told_same (labels x.query.key.apex) (labels c.args.response.now.apex)) ∙ not-true _ (sym c.if-ne.ensures))

pub returns-in_err-check : goal.returns-in_err-check
returns-in_err-check c =
    let self = c.args.self.now in
    let x = c.in_ok-pending.pending in
    let found : first (λ (p : Pending). nat_eq p.query.id c.args.response.now.id.0) (table_of self.pending) ≡ Some (pending_of x) = search rules in
    let p = err_from_is_err_and c.from_residual-in_err-check.result c.from_residual-in_err-check.ensures.1 in
    rw (p.1, p.2)
    (by_check (rules_for self) (state_of self) (response_of c.args.response.now) (pending_of x) _ found
    (sym (told_same (labels x.query.key.apex) (labels c.args.response.now.apex)) ∙ not-false _ (sym c.if-ne.ensures)) _ c.in_err-check.ensures)

pub returns : goal.returns
returns c =
    let self = c.args.self.now in
    let x = c.in_ok-pending.pending in
    let found : first (λ (p : Pending). nat_eq p.query.id c.args.response.now.id.0) (table_of self.pending) ≡ Some (pending_of x) = search rules in
    by_check (rules_for self) (state_of self) (response_of c.args.response.now) (pending_of x) _ found
    (sym (told_same (labels x.query.key.apex) (labels c.args.response.now.apex)) ∙ not-false _ (sym c.if-ne.ensures)) _ c.in_ok-check.ensures
