use Rattle.std.proofs.Common.{◌≡◌, ◌++◌, [], ◌∷◌, map, vec_items, length, ap, ◌∙◌, arith, rules}
use Rattle.std.proofs.lemmas.List.{map-append}
use Rattle.records.specs.Sets.{set_of}
use Rattle.transfers.proofs.Cutting.{Row, none_going, one_on, one_cut, all_gone, all_light}
use Rattle.transfers.proofs.splitting.rows.Goals.{then-len-more-gt-ROOM+in_ok-push, else-len-more-gt-ROOM}
use Rattle.transfers.proofs.splitting.rows.Goals as goal

pub loop-at-init : goal.loop-at-init
loop-at-init c = none_going set_of c.args.sets.now _ (ap (map (λ r. map set_of r.now)) c.new-rows.ensures.items)

pub loop-at-preserved : goal.loop-at-preserved
loop-at-preserved c =
    let sets = c.args.sets.now in
    let i = c.loop-at.at in
    let x = c.index-sets-at.result in
    let e = c.transfer_len-more.ensures in
    elim c.if-len-more-gt-ROOM.branch [
      | then-len-more-gt-ROOM+in_ok-push w ↦
          let more : map (λ r. map set_of r.now) w.push.new.self.items ≡ map (λ r. map set_of r.now) (vec_items c.loop-at.rows) ++ Row set_of sets c.loop-at.start i ∷ [] = search (rules, map-append) in
          rw (w.rows-is, w.start-is, w.len-is) (one_cut set_of sets i x c.loop-at-test.true c.index-sets-at.is _ _ _ _ c.loop-at.invariant e.value _ more (omega arith) (omega arith))
      | else-len-more-gt-ROOM w ↦ rw (w.rows-is, w.start-is, w.len-is) (one_on set_of sets i x c.loop-at-test.true c.index-sets-at.is _ _ _ _ c.loop-at.invariant e.value (omega arith))
    ]

pub returns-clause-value : goal.returns-clause-value
returns-clause-value c =
    let sets = c.args.sets.now in
    let more : map (λ r. map set_of r.now) (vec_items c.push-2.new.self) ≡ map (λ r. map set_of r.now) (vec_items c.loop-at.rows) ++ Row set_of sets c.loop-at.start (length sets) ∷ [] = search (rules, map-append) in
    more ∙ all_gone set_of sets _ _ _ _ c.loop-at.invariant (omega arith)

pub returns-clause-alone : goal.returns-clause-alone
returns-clause-alone c = all_light set_of c.args.sets.now _ _ _ _ c.loop-at.invariant (omega arith)
