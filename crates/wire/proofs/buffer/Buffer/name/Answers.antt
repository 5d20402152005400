use Rattle.std.proofs.Common.{ap, ◌∙◌, arith}
use Rattle.names.specs.Iterating.{labels_ahead}
use Rattle.names.specs.Labels.{proper_labels}
use Rattle.names.specs.Names.{labels}
use Rattle.names.proofs.Appending.{first_short}
use Rattle.names.proofs.Laws.{labels_proper}
use Rattle.names.proofs.Proper.{limits}
use Rattle.wire.proofs.Putting.{none_put, one_put, all_put}
use Rattle.wire.proofs.buffer.Buffer.name.Goals as goal

pub overflow_cast-label_count : goal.overflow_cast-label_count
overflow_cast-label_count c =
    let n = c.args.name.now in
    let f = (limits (labels n) (labels_proper n)).few in
    let e = c.label_count.ensures in
    omega arith

pub loop-label-init : goal.loop-label-init
loop-label-init c =
    let n = c.args.name.now in
    let all = ap labels_ahead c.into_iter-label-iterator.ensures.into_iter_gives ∙ c.labels-label-items.ensures in
    record {
      short = ap proper_labels all ∙ (limits (labels n) (labels_proper n)).labels;
      put = none_put _ _ c.label_count.result (labels n) _ c.label_count.ensures all c.byte.ensures;
    }

pub piece-requires : goal.piece-requires
piece-requires c = (first_short _ _ c.in-Some.label.now c.loop-label.invariant.short c.in-Some.ensures.steps).0

pub loop-label-preserved : goal.loop-label-preserved
loop-label-preserved c =
    record {
      short = (first_short _ _ c.in-Some.label.now c.loop-label.invariant.short c.in-Some.ensures.steps).1;
      put = one_put _ _ _ _ _ _ c.in-Some.label.now c.loop-label.invariant.put c.in-Some.ensures.steps c.piece.ensures;
    }

pub returns : goal.returns
returns c = all_put _ _ (labels c.args.name.now) _ c.loop-label.invariant.put c.in-None.ensures.steps.0
