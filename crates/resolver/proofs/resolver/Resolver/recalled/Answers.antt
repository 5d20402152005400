use Rattle.std.proofs.Common.{refl, ap}
use Rattle.std.specs.List.{slice_get}
use Rattle.names.specs.Names.{labels}
use Rattle.cache.specs.Caches.{entries_of}
use Rattle.machine.specs.Machine.{question}
use Rattle.walks.specs.Ways.{course_for, end_for, outcome_at}
use Rattle.resolver.specs.Resolvers.{roots_of, rules_for, state_of}
use Rattle.resolver.proofs.Standings.{by_answer, by_length}
use Rattle.resolver.proofs.resolver.Resolver.recalled.Goals as goal

pub returns-in-Shows : goal.returns-in-Shows
returns-in-Shows c =
    let self = c.args.self.now in
    let request = c.args.request.now in
    let es = entries_of self.cache in
    λ t.
    by_answer (rules_for self) (state_of self) (question t (labels request.name) request.kind.number) (course_for (roots_of self) es c.walk-course.result) _ _ (c.walk-course.ensures.course (roots_of self)) refl refl
    (outcome_at (slice_get es c.in-Shows.place)) (ap (end_for es) c.in-Shows.is)

pub returns-in-TooLong : goal.returns-in-TooLong
returns-in-TooLong c =
    let self = c.args.self.now in
    let request = c.args.request.now in
    let es = entries_of self.cache in
    λ t.
    by_length (rules_for self) (state_of self) (question t (labels request.name) request.kind.number) (course_for (roots_of self) es c.walk-course.result) _ _ (c.walk-course.ensures.course (roots_of self)) refl refl
    (ap (end_for es) c.in-TooLong.is)
