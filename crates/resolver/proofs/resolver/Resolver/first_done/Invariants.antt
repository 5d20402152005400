use Rattle.std.proofs.Common.{map}
use Rattle.questions.specs.Tries.{question_of}
use Rattle.resolver.specs.Resolvers.{rules_for, state_of}
use Rattle.resolver.proofs.Asking.{NoneDone}
use Rattle.resolver.proofs.resolver.Resolver.first_done.Given as goal

abbrev pub invariant-loop-place : goal.invariant-loop-place
invariant-loop-place l = NoneDone (rules_for l.self) (state_of l.self) (map question_of l.self.walks) l.place
