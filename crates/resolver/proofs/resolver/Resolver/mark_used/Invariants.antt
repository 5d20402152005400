use Rattle.questions.specs.Tries.{question_of}
use Rattle.resolver.specs.Resolvers.{rules_for, state_of}
use Rattle.resolver.proofs.Using.{FlagsOf}
use Rattle.resolver.proofs.resolver.Resolver.mark_used.Given as goal

abbrev pub invariant-loop-question : goal.invariant-loop-question
invariant-loop-question l = FlagsOf question_of (rules_for l.self) (state_of l.self) l.self.cache.apart l.question-items l.question-index l.used
