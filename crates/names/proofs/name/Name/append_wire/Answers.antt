use Rattle.std.proofs.Common.{vec_items, sym, ap, ◌∙◌}
use Rattle.names.specs.Iterating.{labels_ahead}
use Rattle.names.specs.Labels.{proper_labels}
use Rattle.names.specs.Names.{labels}
use Rattle.names.proofs.Appending.{none_written, one_written, all_written, first_short}
use Rattle.names.proofs.Laws.{count_is, labels_proper}
use Rattle.names.proofs.Proper.{limits}
use Rattle.names.proofs.name.Name.append_wire.Goals as goal

pub loop-label-init : goal.loop-label-init
loop-label-init c =
    let n = c.args.self.now in
    let all = ap labels_ahead c.into_iter-label-iterator.ensures.into_iter_gives ∙ c.labels-label-items.ensures in
    (ap proper_labels all ∙ (limits (labels n) (labels_proper n)).labels, none_written (vec_items c.push.new.self) (labels n) _ all)

pub loop-label-preserved : goal.loop-label-preserved
loop-label-preserved c = (
  (first_short _ _ c.in-Some.label.now c.loop-label.invariant.0 c.in-Some.ensures.steps).1,
  one_written _ _ _ _ _ _ c.in-Some.label.now c.loop-label.invariant.1 c.in-Some.ensures.steps c.in_ok-append_label.ensures,
)

pub returns : goal.returns
returns c =
    all_written (vec_items c.args.out.now) _ _ (labels c.args.self.now) _ c.args.self.now.count (sym (count_is c.args.self.now)) c.in_ok-push.ensures.items c.loop-label.invariant.1 c.in-None.ensures.steps.0
