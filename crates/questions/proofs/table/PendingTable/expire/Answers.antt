use Rattle.std.proofs.Common.{map, ap, ◌∙◌, rules, arith}
use Rattle.std.proofs.lemmas.Fn.{filter_same}
use Rattle.machine.specs.Machine.{is_open}
use Rattle.cache.specs.Entries.{rules as times}
use Rattle.questions.specs.Queries.{pending_of}
use Rattle.questions.proofs.Finding.{kept_of, filtered_few}
use Rattle.questions.proofs.table.PendingTable.expire.Goals as goal

pub returns : goal.returns
returns c =
    let test = is_open times c.args.moment.0 in
    ap (map pending_of) (filter_same _ (λ p. test (pending_of p)) _ (λ p b f k. search rules) _ _ c.retain.ensures) ∙ kept_of pending_of test c.args.self.now.queries

pub invariant_of-self : goal.invariant_of-self
invariant_of-self c =
    let f = c.args.self.now.few in
    let l = filtered_few _ _ _ _ c.retain.ensures in
    record { few = omega arith }
