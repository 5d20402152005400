use Rattle.std.proofs.Common.{get_or, ap, arith}
use Rattle.cache.specs.Caches.{entries_of}
use Rattle.questions.specs.Queries.{pending_of}
use Rattle.questions.specs.Tries.{question_of}
use Rattle.resolver.specs.Resolvers.{count_by}
use Rattle.resolver.proofs.Counting.{next_changed}
use Rattle.resolver.proofs.resolver.count.count_each.Goals as goal

pub loop-question-preserved : goal.loop-question-preserved
loop-question-preserved c =
    let ys = c.loop-question.question-items in
    let i = c.loop-question.question-index in
    next_changed question_of (count_by c.args.moment.0 (entries_of c.args.cache.now) (pending_of c.args.pending.now)) c.args.walks.now ys i (get_or ys i c.question-item.result) c.count_for.new.question
    (omega arith) c.loop-question.auto.question-items c.loop-question.invariant (ap (λ d. get_or ys i d) c.question-item.is) c.count_for.ensures
