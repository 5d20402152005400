use Rattle.std.proofs.Common.{Bool, sym, ap, ◌∙◌}
use Rattle.std.specs.Option.{option_map}
use Rattle.cache.specs.Caches.{entries_of}
use Rattle.questions.specs.Tries.{question_of}
use Rattle.machine.specs.Machine.{Question, is_waiting, standing}
use Rattle.resolver.specs.Resolvers.{roots_of, rules_for, state_of}
use Rattle.resolver.proofs.Drawing.{none_left, not_this, this_one, not_waiting, wish_is}
use Rattle.resolver.proofs.resolver.Resolver.wanting.Goals as goal

pub loop-question-preserved : goal.loop-question-preserved
loop-question-preserved c =
    let self = c.args.self.now in
    let test : Question → Bool = λ u. is_waiting (standing (rules_for self) (state_of self) u) in
    c.loop-question.invariant
    ∙ not_this test question_of c.loop-question.question-iterator.iter.rest.now c.next.new.self.iter.rest.now c.in-Some.question.now c.in-Some.ensures.steps
    (ap is_waiting (sym c.standing.ensures.standing) ∙ not_waiting (roots_of self) (entries_of self.cache) c.standing.result c.in_default.not-Wants)

pub returns-in-Wants : goal.returns-in-Wants
returns-in-Wants c =
    let self = c.args.self.now in
    let test : Question → Bool = λ u. is_waiting (standing (rules_for self) (state_of self) u) in
    wish_is (rules_for self) (state_of self) (question_of c.in-Some.question.now) _ _ c.in-Wants.ensures.kind c.in-Wants.ensures.standing
    ∙ ap (option_map (λ (u : Question). (u.kind, standing (rules_for self) (state_of self) u)))
    (sym (c.loop-question.invariant ∙ this_one test question_of c.loop-question.question-iterator.iter.rest.now c.next.new.self.iter.rest.now c.in-Some.question.now c.in-Some.ensures.steps (ap is_waiting (sym c.in-Wants.ensures.standing))))

pub returns : goal.returns
returns c =
    let self = c.args.self.now in
    let test : Question → Bool = λ u. is_waiting (standing (rules_for self) (state_of self) u) in
    ap (option_map (λ (u : Question). (u.kind, standing (rules_for self) (state_of self) u))) (sym (c.loop-question.invariant ∙ none_left test question_of c.loop-question.question-iterator.iter.rest.now c.in-None.ensures.steps.0))
