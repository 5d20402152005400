use Rattle.std.proofs.Common.{not, eqb, map, ap, ◌∙◌, rules, arith}
use Rattle.std.proofs.lemmas.Fn.{filter_same}
use Rattle.machine.specs.Machine.{Pending}
use Rattle.questions.specs.Queries.{pending_of}
use Rattle.questions.proofs.Finding.{kept_of, filtered_few}
use Rattle.questions.proofs.table.PendingTable.close.Goals as goal

pub returns : goal.returns
returns c =
    let test = λ (x : Pending). not (eqb x.query.id c.args.id.0) in
    ap (map pending_of) (filter_same _ (λ p. test (pending_of p)) _ (λ p b f k. search rules) _ _ c.retain.ensures) ∙ kept_of pending_of test c.args.self.now.queries

pub invariant_of-self : goal.invariant_of-self
invariant_of-self c =
    let f = c.args.self.now.few in
    let l = filtered_few _ _ _ _ c.retain.ensures in
    record { few = omega arith }
