use Rattle.std.proofs.Common.{not, map}
use Rattle.cache.specs.Entries.{rules as times}
use Rattle.machine.specs.Machine.{is_open}
use Rattle.questions.specs.Queries.{pending_of}
use Rattle.questions.specs.Tries.{question_of}
use Rattle.resolver.specs.Resolvers.{rules_for, state_of}
use Rattle.resolver.proofs.Ticking.{Counted}
use Rattle.resolver.proofs.resolver.Resolver.count_expired.Given as goal

abbrev pub invariant-loop-pending : goal.invariant-loop-pending
invariant-loop-pending l = Counted pending_of (λ x. not (is_open times l.next.0 x)) (rules_for l.fn.self) (state_of l.fn.self) l.pending-items l.pending-index (map question_of l.initial.walks) (map question_of l.walks)
