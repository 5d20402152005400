use Rattle.std.proofs.Common.{◌≡◌, [], Ok, inl, ap, rules}
use Rattle.wire.specs.Sets.{sets_of}
use Rattle.wire.proofs.Naming.{none_set, one_set, all_set, cut_short, reads_gives, set_all, set_shorter}
use Rattle.wire.proofs.sets.sets.Goals as goal

pub loop-heap-init : goal.loop-heap-init
loop-heap-init c =
    let none : sets_of c.new.result ≡ [] = search rules in
    none_set c.args.fields.now.rest.now _ (ap Ok none)

pub returns-in_default : goal.returns-in_default
returns-in_default c = inl (cut_short c.args.fields.now.rest.now _ c.loop-heap.fields.rest.now c.loop-heap.invariant (search rules) c.in_default.ensures)

pub loop-heap-smaller : goal.loop-heap-smaller
loop-heap-smaller c = set_shorter c.loop-heap.fields.rest.now c.in-Some.ensures.0 c.set.new.fields.rest.now c.in-Some.ensures.1

pub loop-heap-preserved : goal.loop-heap-preserved
loop-heap-preserved c =
    one_set c.args.fields.now.rest.now _ c.loop-heap.fields.rest.now c.in-Some.ensures.0 c.set.new.fields.rest.now c.in-Some.set _ c.loop-heap.invariant (search rules) c.in-Some.ensures.1 c.in-Some.ensures.2
    (reads_gives _ c.with_set-sets.result c.with_set-sets.ensures)

pub returns : goal.returns
returns c = set_all _ c.loop-heap.sets (all_set c.args.fields.now.rest.now _ c.loop-heap.fields.rest.now c.loop-heap.invariant (search rules))
