use Rattle.std.proofs.Common.{map, Some, sym, refl, ap, ◌∙◌}
use Rattle.cache.specs.Caches.{entries_of}
use Rattle.questions.specs.Tries.{question_of}
use Rattle.machine.specs.Machine.{Settled, settle, with_walks, shown_as}
use Rattle.machine.specs.Refine.{settles}
use Rattle.resolver.specs.Resolvers.{roots_of, rules_for, state_of, answer_for}
use Rattle.resolver.proofs.Asking.{read_at, without}
use Rattle.resolver.proofs.Running.{moved, settled_keeps}
use Rattle.resolver.proofs.resolver.Resolver.settle.Goals as goal

pub returns-clause-shown : goal.returns-clause-shown
returns-clause-shown c =
    let self = c.args.self.now in
    let at = c.in_ok-place in
    let answer = answer_for (entries_of self.cache) at.outcome.answer in
    let q = c.in_ok-question.question in
    let r = read_at question_of self.walks at.place q at.ensures.0 c.in_ok-question.ensures.1 (question_of q) in
    (λ i. Some (record { ticket = c.request-request.ensures.ticket i; name = c.request-request.ensures.name i; kind = c.request-request.ensures.kind i; answer = answer; left = at.outcome.left }))
    ∙ (λ i. Some (shown_as (r i) answer at.outcome.left))
    ∙ sym (ap (λ (s : Settled). s.shown) (at.ensures.1 (question_of q)))

pub returns-clause-state : goal.returns-clause-state
returns-clause-state c =
    let self = c.args.self.now in
    let at = c.in_ok-place in
    ap (λ ws. with_walks ws (state_of self)) (ap (map question_of) c.in_ok-question.ensures.2 ∙ without question_of self.walks at.place ∙ sym (ap (λ (s : Settled). s.walks) (at.ensures.1 (question_of c.in_ok-question.question))))

pub returns-clause-runs : goal.returns-clause-runs
returns-clause-runs c =
    let self = c.args.self.now in
    λ es j. moved (roots_of self) (roots_of self) (settle (rules_for self) (state_of self)).state _ es refl (returns-clause-state c) (settles j)

pub returns-clause-promise : goal.returns-clause-promise
returns-clause-promise c =
    let self = c.args.self.now in
    λ es j. settled_keeps (rules_for self) (state_of self) es j _ (returns-clause-shown c)
