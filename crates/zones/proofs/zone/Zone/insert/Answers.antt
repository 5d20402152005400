use Rattle.std.proofs.Common.{◌∙◌, sym, ap}
use Rattle.names.specs.Names.{labels}
use Rattle.records.specs.Sets.{set_of}
use Rattle.zones.specs.Cuts.{cuts_of, new_cut, with_any}
use Rattle.zones.specs.Valid.{insert_set, valid}
use Rattle.zones.specs.Zones.{sets_of, cuts_in}
use Rattle.zones.proofs.Added.{may, still_valid, still_carried, still_bounded}
use Rattle.zones.proofs.OneMore.{one_more}
use Rattle.zones.proofs.zone.Zone.insert.Goals as goal

pub invariant_of-self-2 : goal.invariant_of-self-2
invariant_of-self-2 c =
    let z = c.args.self.now in
    let a = labels z.sets.apex in
    let ss = sets_of z.sets in
    let s = set_of c.args.set in
    let m = may a ss s (insert_set s ss) c.in_ok-place.ensures.0 in
    let ts = sets_of c.insert.new.self in
    let at = c.insert.ensures.apex ∙ c.in_ok-reserve.ensures.apex in
    let is = c.insert.ensures.sets ∙ ap (insert_set s) c.in_ok-reserve.ensures.sets in
    let cs = c.add_set.ensures.cuts ∙ ap (λ xs. with_any (new_cut s xs) xs) c.in_ok-reserve-2.ensures.cuts in
    record {
      shared = c.add_set.ensures.apex ∙ c.in_ok-reserve-2.ensures.apex ∙ z.shared ∙ sym at;
      limited = ap (λ b. valid b ts) at ∙ still_valid a ss s m ts is z.limited;
      cut = (λ i. cuts_of (at i) (is i) (cs i)) ∙ one_more a ss (cuts_in z.cuts) z.cut s m.inside;
      weighed = still_carried a ss s m ts is z.carried c.transfer_len.result z.weighed c.transfer_len.ensures.value;
      bounded = still_bounded a ss s m ts is z.carried c.transfer_len.result z.bounded c.transfer_len.ensures.bound;
    }
