use Rattle.cache.specs.Caches.{entries_of}
use Rattle.questions.specs.Queries.{pending_of}
use Rattle.questions.specs.Tries.{question_of}
use Rattle.resolver.specs.Resolvers.{count_by}
use Rattle.resolver.proofs.Counting.{Changed}
use Rattle.resolver.proofs.resolver.count.count_each.Given as goal

abbrev pub invariant-loop-question : goal.invariant-loop-question
invariant-loop-question l = Changed question_of (count_by l.moment.0 (entries_of l.cache) (pending_of l.pending)) l.initial.question-items l.question-items l.question-index
