use Rattle.std.proofs.Common.{[], get_or, length, ap, ◌∙◌, rules, arith}
use Rattle.std.proofs.lemmas.List.{length_push}
use Rattle.names.specs.Iterating.{labels_ahead}
use Rattle.names.specs.Names.{labels}
use Rattle.names.proofs.Iterating.{last_left, none_left}
use Rattle.names.proofs.Laws.{count_is}
use Rattle.names.proofs.name.iter.hand.LabelsDoubleEndedIterator.next_back.Goals as goal

pub returns-in_err-depth-clause-steps : goal.returns-in_err-depth-clause-steps
unfolding labels_ahead
returns-in_err-depth-clause-steps c = search (rules, none_left)

pub label_at-requires : goal.label_at-requires
label_at-requires c =
    let l = count_is c.args.self.now.name.now in
    let t = c.args.self.now.there in
    let s = c.in_ok-depth.ensures.steps in
    omega (arith, s.1.0, s.1.1, s.1.2)

pub returns-clause-steps : goal.returns-clause-steps
unfolding labels_ahead
returns-clause-steps c =
    let n = c.args.self.now.name.now in
    let d = c.args.self.now.depths in
    let l = count_is n in
    let t = c.args.self.now.there in
    let s = c.in_ok-depth.ensures.steps in
    last_left (labels n) d.start d.end _ _ _ s.1.0 (omega arith) s.0 s.1.2 (c.label_at.ensures ∙ ap (λ k. get_or (labels n) k []) s.1.1)

pub returns-clause-goes : goal.returns-clause-goes
returns-clause-goes c =
    let fewer = ap length (returns-clause-steps c) ∙ length_push _ _ in
    search rules
