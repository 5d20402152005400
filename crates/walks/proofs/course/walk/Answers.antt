use Rattle.std.proofs.Common.{◌-◌, suc, map, sym, ap, ◌∙◌, subst, arith}
use Rattle.std.specs.List.{slice_get}
use Rattle.names.specs.Names.{labels}
use Rattle.cache.specs.Caches.{entries_of}
use Rattle.cache.specs.Entries.{entry_of}
use Rattle.walks.specs.declared.course.Course.{Course}
use Rattle.walks.specs.Courses.{lesser}
use Rattle.walks.specs.Traces.{places_of}
use Rattle.walks.specs.Ways.{course_for, IsOfKind}
use Rattle.walks.proofs.Going.{of_kind, from_root, lacks, ends, goes, too_long, none_placed, placed_lacks, placed_ends, placed_goes, placed_long}
use Rattle.walks.proofs.course.walk.Goals as goal

pub loop-step-init : goal.loop-step-init
loop-step-init c =
    let now = c.args.moment.0 in
    let es = entries_of c.args.cache.now in
    let k = c.args.kind.number in
    let q = labels c.args.name.now in
    let w = c.from_root-way.result in
    let f = c.from_root-way.ensures in
    let a = labels w.key.apex in
    let p = labels w.key.name in
    record {
      kind = f.kind;
      way = λ m e. from_root now es k q m (omega arith) a p w.least w.referral f.apex f.name f.least f.referral;
      placed = λ m e. none_placed now es k q m (omega arith) (places_of c.empty-trace.result) a p c.empty-trace.ensures f.apex f.name;
    }

pub returns-in_default : goal.returns-in_default
returns-in_default c =
    let now = c.args.moment.0 in
    let es = entries_of c.args.cache.now in
    let k = c.args.kind.number in
    let q = labels c.args.name.now in
    let w = c.loop-step.way in
    let i = c.loop-step.invariant in
    let a = labels w.key.apex in
    let p = labels w.key.name in
    let m = 23 - c.loop-step._step in
    let t = c.loop-step-test.true in
    let none = of_kind now es c.args.kind w.key.kind a p i.kind ∙ sym c.in_default.ensures.entry in
    record {
      course = λ roots. ap (course_for roots es) c.stopped.ensures ∙ lacks now es k q m w.least w.referral a p (i.way (suc m) (omega arith)) none roots;
      words = ap (λ (y : Course). map (slice_get es) (places_of y.trace)) c.stopped.ensures ∙ placed_lacks now es k q m (places_of c.loop-step.trace) a p (i.placed (suc m) (omega arith)) none;
      kind = subst (λ (y : Course). IsOfKind c.args.kind y.ending) (sym c.stopped.ensures) i.kind;
    }

pub loop-step-preserved : goal.loop-step-preserved
loop-step-preserved c =
    let now = c.args.moment.0 in
    let es = entries_of c.args.cache.now in
    let k = c.args.kind.number in
    let q = labels c.args.name.now in
    let w = c.loop-step.way in
    let v = c.in-Some-step.next in
    let i = c.loop-step.invariant in
    let s = c.in-Some-step.ensures in
    let a = labels w.key.apex in
    let p = labels w.key.name in
    let e = entry_of c.in-Some.entry.now in
    let found = of_kind now es c.args.kind w.key.kind a p i.kind ∙ sym c.in-Some.ensures.entry in
    record {
      kind = s.kind ∙ i.kind;
      way = λ m n. goes now es k q m w.least w.referral a p (i.way (suc m) (omega arith)) e c.in-Some.place v.least v.referral (labels v.key.apex) (labels v.key.name) found c.in-Some.ensures.place s.turn s.least s.referral;
      placed = λ m n. placed_goes now es k q m (places_of c.loop-step.trace) a p (i.placed (suc m) (omega arith)) (places_of c.push.new.self) c.in-Some.place e (labels v.key.apex) (labels v.key.name) c.push.ensures c.in-Some.ensures.place found s.turn;
    }

pub returns-in-None : goal.returns-in-None
returns-in-None c =
    let now = c.args.moment.0 in
    let es = entries_of c.args.cache.now in
    let k = c.args.kind.number in
    let q = labels c.args.name.now in
    let w = c.loop-step.way in
    let i = c.loop-step.invariant in
    let a = labels w.key.apex in
    let p = labels w.key.name in
    let e = entry_of c.in-Some.entry.now in
    let m = 23 - c.loop-step._step in
    let t = c.loop-step-test.true in
    let found = of_kind now es c.args.kind w.key.kind a p i.kind ∙ sym c.in-Some.ensures.entry in
    record {
      course = ends now es k q m w.least w.referral a p (i.way (suc m) (omega arith)) e c.in-Some.place c.lesser_of.result found c.in-Some.ensures.place c.in-None.ensures.turn (c.lesser_of.ensures ∙ ap (lesser w.least) c.left.ensures);
      words = placed_ends now es k q m (places_of c.loop-step.trace) a p (i.placed (suc m) (omega arith)) (places_of c.push.new.self) c.in-Some.place e c.push.ensures c.in-Some.ensures.place found c.in-None.ensures.turn;
      kind = tt;
    }

pub returns : goal.returns
returns c =
    let now = c.args.moment.0 in
    let es = entries_of c.args.cache.now in
    let k = c.args.kind.number in
    let q = labels c.args.name.now in
    let w = c.loop-step.way in
    let i = c.loop-step.invariant in
    let a = labels w.key.apex in
    let p = labels w.key.name in
    let t = c.loop-step-test.false in
    let u = c.loop-step.auto._step-end in
    record {
      course = λ roots. ap (course_for roots es) c.stopped-2.ensures ∙ too_long now es k q w.least w.referral a p (i.way 0 (omega arith)) roots;
      words = ap (λ (y : Course). map (slice_get es) (places_of y.trace)) c.stopped-2.ensures ∙ placed_long now es k q (places_of c.loop-step.trace) a p (i.placed 0 (omega arith));
      kind = subst (λ (y : Course). IsOfKind c.args.kind y.ending) (sym c.stopped-2.ensures) tt;
    }
