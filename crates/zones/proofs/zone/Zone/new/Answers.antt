use Rattle.std.proofs.Common.{length, sym, ap, ◌∙◌, arith}
use Rattle.meaning.specs.Transfer.{all_transferred}
use Rattle.names.specs.Names.{labels}
use Rattle.zones.specs.Sorted.{each}
use Rattle.zones.specs.Cuts.{apart, cuts_of}
use Rattle.zones.specs.Valid.{valid}
use Rattle.zones.proofs.zone.Zone.new.Goals as goal

pub invariant_of-result : goal.invariant_of-result
unfolding apart each all_transferred
invariant_of-result c = record {
  shared = c.new-2.ensures.apex ∙ sym c.new.ensures.apex;
  limited = λ i. valid (labels c.new.result.apex) (c.new.ensures.sets i);
  cut = λ i. cuts_of (labels c.new.result.apex) (c.new.ensures.sets i) (c.new-2.ensures.cuts i);
  weighed = sym (ap (λ ss. length (all_transferred ss)) c.new.ensures.sets);
  bounded = omega arith;
}
