use Rattle.std.proofs.Common.{◌≡◌, map}
use Rattle.machine.specs.Machine.{last_of, is_waiting, standing}
use Rattle.questions.specs.Tries.{question_of}
use Rattle.resolver.specs.Resolvers.{rules_for, state_of}
use Rattle.resolver.proofs.resolver.Resolver.wanting.Given as goal

-- the answer lies in what is left
abbrev pub invariant-loop-question : goal.invariant-loop-question
invariant-loop-question l =
    last_of (λ u. is_waiting (standing (rules_for l.self) (state_of l.self) u)) (map question_of l.self.walks)
    ≡ last_of (λ u. is_waiting (standing (rules_for l.self) (state_of l.self) u)) (map question_of l.question-iterator.iter.rest.now)
