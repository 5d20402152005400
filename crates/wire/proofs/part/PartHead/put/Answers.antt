use Rattle.wire.proofs.Putting.{put_more}
use Rattle.wire.specs.Heads.{part_with}
use Rattle.wire.proofs.Keeping.{part_again}
use Rattle.wire.proofs.Sending.{none_sent, one_sent, all_sent}
use Rattle.wire.proofs.part.PartHead.put.Goals as goal

pub loop-set-init : goal.loop-set-init
loop-set-init c = none_sent c.args.self.now c.args.sets.now _ _ (put_more _ _ _ _ _ c.byte.ensures c.put_fields.ensures.put)

pub loop-set-preserved : goal.loop-set-preserved
loop-set-preserved c = one_sent c.args.self.now c.args.sets.now _ _ _ c.loop-set.set-index c.set-item.result c.loop-set.invariant c.loop-set-test.true c.set-item.is c.set.ensures.put c.set.ensures.kept

pub returns-clause-read : goal.returns-clause-read
returns-clause-read c = part_again (part_with c.args.self.now c.args.sets.now) c.put_fields.ensures.kept (all_sent c.args.self.now c.args.sets.now _ _ c.loop-set.set-index c.loop-set.invariant c.loop-set-test.false)
