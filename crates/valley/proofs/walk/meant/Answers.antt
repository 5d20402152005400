use Rattle.std.proofs.Common.{◌-◌, suc, sym, ap, ◌∙◌, arith}
use Rattle.std.specs.Option.{option_map}
use Rattle.names.specs.Names.{labels}
use Rattle.cache.specs.Entries.{said_of, word_of}
use Rattle.walks.specs.Ways.{outcome_of}
use Rattle.valley.specs.Owning.{published_by}
use Rattle.valley.proofs.Meant.{lacks, ends, goes, too_long}
use Rattle.valley.proofs.walk.meant.Goals as goal

pub returns-in_default : goal.returns-in_default
returns-in_default c =
    let vs = published_by c.args.owners.now in
    let k = c.args.kind.number in
    let q = labels c.args.asked.now in
    let a = labels c.loop-step.place.apex in
    let p = labels c.loop-step.place.name in
    let m = 23 - c.loop-step._step in
    let t = c.loop-step-test.true in
    (a, p, lacks vs k q m a p (c.loop-step.invariant (suc m) (omega arith)) (sym c.in_ok-word.ensures ∙ ap (option_map word_of) c.in_default.is))

pub returns-in-None : goal.returns-in-None
returns-in-None c =
    let vs = published_by c.args.owners.now in
    let k = c.args.kind.number in
    let q = labels c.args.asked.now in
    let a = labels c.loop-step.place.apex in
    let p = labels c.loop-step.place.name in
    let m = 23 - c.loop-step._step in
    let t = c.loop-step-test.true in
    let w = c.in-Some.word in
    ends vs k q m a p (word_of w) (outcome_of (said_of w.said)) (c.loop-step.invariant (suc m) (omega arith)) (sym c.in_ok-word.ensures ∙ ap (option_map word_of) c.in-Some.is) c.in-None.ensures

pub loop-step-preserved : goal.loop-step-preserved
loop-step-preserved c =
    let vs = published_by c.args.owners.now in
    let k = c.args.kind.number in
    let q = labels c.args.asked.now in
    let a = labels c.loop-step.place.apex in
    let p = labels c.loop-step.place.name in
    let v = c.in-Some-onward.next in
    λ m e. goes vs k q m a p (word_of c.in-Some.word) (labels v.apex) (labels v.name) (c.loop-step.invariant (suc m) (omega arith)) (sym c.in_ok-word.ensures ∙ ap (option_map word_of) c.in-Some.is) c.in-Some-onward.ensures

pub returns : goal.returns
returns c =
    let vs = published_by c.args.owners.now in
    let u = c.loop-step.auto._step-end in
    let t = c.loop-step-test.false in
    too_long vs c.args.kind.number (labels c.args.asked.now) (labels c.loop-step.place.apex) (labels c.loop-step.place.name) (c.loop-step.invariant 0 (omega arith))
