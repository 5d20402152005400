use Rattle.std.proofs.Common.{sym, ap, ◌∙◌, subst}
use Rattle.std.specs.List.{slice_get}
use Rattle.names.specs.Names.{labels}
use Rattle.std.proofs.lemmas.Bool.{not-true, not-false}
use Rattle.cache.specs.Caches.{entries_of}
use Rattle.questions.specs.Tables.{table_of}
use Rattle.questions.specs.Tries.{question_of, tries_of}
use Rattle.records.specs.declared.types.Kind.{Kind}
use Rattle.machine.specs.Machine.{lacking, pending_for, tried_of, too_many}
use Rattle.walks.specs.Ways.{course_for, end_for, outcome_at, servers_at, IsOfKind}
use Rattle.resolver.specs.Resolvers.{roots_of, rules_for, state_of}
use Rattle.resolver.proofs.Standings.{by_answer, by_length, by_many, by_lack}
use Rattle.resolver.proofs.resolver.Resolver.standing.Goals as goal

pub returns-in-Shows-clause-standing : goal.returns-in-Shows-clause-standing
returns-in-Shows-clause-standing c =
    let self = c.args.self.now in
    let es = entries_of self.cache in
    by_answer (rules_for self) (state_of self) (question_of c.args.question.now) (course_for (roots_of self) es c.walk-course.result) _ _ (c.walk-course.ensures.course (roots_of self)) c.request-request.ensures.name c.request-request.ensures.kind
    (outcome_at (slice_get es c.in-Shows.place)) (ap (end_for es) c.in-Shows.is)

pub returns-in-TooLong-clause-standing : goal.returns-in-TooLong-clause-standing
returns-in-TooLong-clause-standing c =
    let self = c.args.self.now in
    let es = entries_of self.cache in
    by_length (rules_for self) (state_of self) (question_of c.args.question.now) (course_for (roots_of self) es c.walk-course.result) _ _ (c.walk-course.ensures.course (roots_of self)) c.request-request.ensures.name c.request-request.ensures.kind
    (ap (end_for es) c.in-TooLong.is)

pub returns-then-may_use-clause-standing : goal.returns-then-may_use-clause-standing
returns-then-may_use-clause-standing c =
    let self = c.args.self.now in
    let es = entries_of self.cache in
    let a = labels c.in-Lacks.key.apex in
    let p = labels c.in-Lacks.key.name in
    let ts = tries_of c.args.question.now in
    let kind = subst (IsOfKind c.request-request.result.now.kind) c.in-Lacks.is c.walk-course.ensures.kind in
    c.lacking.ensures.standing
    ∙ ap (λ k. lacking a p (servers_at (roots_of self) es c.walk-course.result.referral) (tried_of a p ts) (pending_for a p k (table_of self.pending))) (ap (λ (k : Kind). k.number) kind)
    ∙ by_lack (rules_for self) (state_of self) (question_of c.args.question.now) (course_for (roots_of self) es c.walk-course.result) _ _ (c.walk-course.ensures.course (roots_of self)) c.request-request.ensures.name c.request-request.ensures.kind
    a p (ap (end_for es) c.in-Lacks.is) (not-true (too_many (tried_of a p ts) ts) (sym c.if-may_use.ensures))

pub returns-else-may_use-clause-standing : goal.returns-else-may_use-clause-standing
returns-else-may_use-clause-standing c =
    let self = c.args.self.now in
    let es = entries_of self.cache in
    let a = labels c.in-Lacks.key.apex in
    let p = labels c.in-Lacks.key.name in
    let ts = tries_of c.args.question.now in
    by_many (rules_for self) (state_of self) (question_of c.args.question.now) (course_for (roots_of self) es c.walk-course.result) _ _ (c.walk-course.ensures.course (roots_of self)) c.request-request.ensures.name c.request-request.ensures.kind
    a p (ap (end_for es) c.in-Lacks.is) (not-false (too_many (tried_of a p ts) ts) (sym c.if-may_use.ensures))
