use Rattle.std.proofs.Common.{◌≡◌, Bool, not, map, length, sym, ap, ◌∙◌, arith}
use Rattle.cache.specs.Entries.{rules as times}
use Rattle.machine.specs.Machine.{Pending, is_open, with_walks, count_all}
use Rattle.protocol.specs.Lists.{kept}
use Rattle.questions.specs.Queries.{pending_of}
use Rattle.questions.specs.Tries.{question_of}
use Rattle.bounded.proofs.Writing.{written_all}
use Rattle.resolver.specs.Resolvers.{rules_for, state_of}
use Rattle.resolver.proofs.Ticking.{passed_by, counted_one, all_counted}
use Rattle.resolver.proofs.resolver.Resolver.count_expired.Goals.{then-not-is_open, else-not-is_open}
use Rattle.resolver.proofs.resolver.Resolver.count_expired.Goals as goal

pub loop-pending-preserved : goal.loop-pending-preserved
loop-pending-preserved c =
    let self = c.args.self.now in
    let out : Pending → Bool = λ x. not (is_open times c.args.next.0 x) in
    let i = c.loop-pending.pending-index in
    elim c.if-not-is_open.branch [
      | then-not-is_open w ↦ counted_one pending_of out (rules_for self) (state_of self) c.as_slice-pending-items.result.now i c.pending-item.result _ (map question_of c.loop-pending.walks) _ (omega arith) c.pending-item.is (ap not (sym w.if-not-is_open.ensures)) (ap (map question_of) w.walks-is ∙ w.count_each.ensures) c.loop-pending.invariant
      | else-not-is_open w ↦ passed_by pending_of out (rules_for self) (state_of self) c.as_slice-pending-items.result.now i c.pending-item.result _ (map question_of c.loop-pending.walks) _ (omega arith) c.pending-item.is (ap not (sym w.if-not-is_open.ensures)) (ap (map question_of) w.walks-is) c.loop-pending.invariant
    ]

pub returns-clause-state : goal.returns-clause-state
returns-clause-state c =
    let self = c.args.self.now in
    let st = state_of self in
    let out : Pending → Bool = λ x. not (is_open times c.args.next.0 x) in
    let long : length c.loop-pending.walks ≡ length self.walks = c.loop-pending.auto.walks ∙ ap length c.as_mut_slice-walks.ensures.value in
    ap (λ us. with_walks us st)
    (ap (map question_of) (written_all self.walks c.loop-pending.walks long)
    ∙ all_counted pending_of out (rules_for self) st c.as_slice-pending-items.result.now c.loop-pending.pending-index (map question_of c.as_mut_slice-walks.result.now) (map question_of c.loop-pending.walks) (omega arith) c.loop-pending.invariant
    ∙ (λ i. count_all (rules_for self) st (kept out (c.as_slice-pending-items.ensures i)) (map question_of (c.as_mut_slice-walks.ensures.value i))))
