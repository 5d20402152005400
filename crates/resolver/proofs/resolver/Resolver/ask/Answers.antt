use Rattle.std.proofs.Common.{[], ◌∷◌, ◌++◌, map, length, sym, refl, ap, ◌∙◌, arith}
use mathlib.Core.List.{map-append}
use lib.ListN.{length-map}
use Rattle.names.specs.Names.{labels}
use Rattle.std.proofs.lemmas.Bool.{leb-false, leb-true}
use Rattle.cache.specs.Caches.{entries_of}
use Rattle.questions.specs.Tries.{question_of}
use Rattle.machine.specs.Machine.{question, standing, with_walks, Began, begin}
use Rattle.machine.specs.Refine.{begins}
use Rattle.resolver.specs.Resolvers.{roots_of, rules_for, state_of, answer_for}
use Rattle.bounded.proofs.Writing.{pushed}
use Rattle.resolver.proofs.Asking.{no_place, done_at_once, under_way}
use Rattle.resolver.proofs.Running.{moved, begun_keeps}
use Rattle.resolver.proofs.resolver.Resolver.ask.Goals as goal

pub returns-then-is_full-clause-done : goal.returns-then-is_full-clause-done
returns-then-is_full-clause-done c =
    let self = c.args.self.now in
    let request = c.args.request in
    let m = length-map self.walks question_of in
    let l = leb-true 16 (length self.walks) (sym c.if-is_full.ensures) in
    let e = no_place (rules_for self) (state_of self) (question request.ticket (labels request.name) request.kind.number) (omega arith) in
    (sym (ap (λ (b : Began). b.shown) e), sym (ap (λ (b : Began). b.state) e))

pub returns-in-Done-clause-done : goal.returns-in-Done-clause-done
returns-in-Done-clause-done c =
    let self = c.args.self.now in
    let request = c.args.request in
    let m = length-map self.walks question_of in
    let l = leb-false 16 (length self.walks) (sym c.if-is_full.ensures) in
    let e = done_at_once (rules_for self) (state_of self) (question request.ticket (labels request.name) request.kind.number) (answer_for (entries_of self.cache) c.in-Done.outcome.answer) c.in-Done.outcome.left (omega arith)
    (c.in-Done.ensures.standing ∙ ap (standing (rules_for self) (state_of self)) c.in_ok-question.ensures) in
    (sym (ap (λ (b : Began). b.shown) e), sym (ap (λ (b : Began). b.state) e))

pub returns-in-Some-clause-done : goal.returns-in-Some-clause-done
returns-in-Some-clause-done c =
    let self = c.args.self.now in
    let request = c.args.request in
    let m = length-map self.walks question_of in
    let l = leb-false 16 (length self.walks) (sym c.if-is_full.ensures) in
    let e = done_at_once (rules_for self) (state_of self) (question request.ticket (labels request.name) request.kind.number) (answer_for (entries_of self.cache) c.in-Some.outcome.answer) c.in-Some.outcome.left (omega arith)
    (c.in-Some.ensures request.ticket) in
    (sym (ap (λ (b : Began). b.shown) e), sym (ap (λ (b : Began). b.state) e))

pub returns-in-Some-clause-promise : goal.returns-in-Some-clause-promise
returns-in-Some-clause-promise c =
    let self = c.args.self.now in
    let request = c.args.request in
    λ es j. begun_keeps (rules_for self) (state_of self) es j (question request.ticket (labels request.name) request.kind.number) _ (returns-in-Some-clause-done c).0

pub returns-then-is_full-clause-promise : goal.returns-then-is_full-clause-promise
returns-then-is_full-clause-promise c =
    let self = c.args.self.now in
    let request = c.args.request in
    λ es j. begun_keeps (rules_for self) (state_of self) es j (question request.ticket (labels request.name) request.kind.number) _ (returns-then-is_full-clause-done c).0

pub returns-in-Done-clause-promise : goal.returns-in-Done-clause-promise
returns-in-Done-clause-promise c =
    let self = c.args.self.now in
    let request = c.args.request in
    λ es j. begun_keeps (rules_for self) (state_of self) es j (question request.ticket (labels request.name) request.kind.number) _ (returns-in-Done-clause-done c).0

pub returns : goal.returns
returns c =
    let self = c.args.self.now in
    let request = c.args.request in
    let m = length-map self.walks question_of in
    let l = leb-false 16 (length self.walks) (sym c.if-is_full.ensures) in
    let u = c.in_ok-question.ensures in
    let e = under_way (rules_for self) (state_of self) (question request.ticket (labels request.name) request.kind.number) (roots_of self) (entries_of self.cache) c.standing.result (omega arith)
    (c.standing.ensures.standing ∙ ap (standing (rules_for self) (state_of self)) u) c.in_default-standing.not-Done in
    let more =
    ap (λ ws. with_walks ws (state_of self)) (ap (map question_of) (pushed 16 self.walks c.push.new.self c.in_ok-question.question c.push.result c.push.ensures (omega arith)) ∙ map-append question_of self.walks (c.in_ok-question.question ∷ []) ∙ ap (λ x. map question_of self.walks ++ (x ∷ [])) u)
    ∙ sym (ap (λ (b : Began). b.state) e) in
    record {
      done = (sym (ap (λ (b : Began). b.shown) e), more);
      roots = refl;
      runs = λ es j. moved (roots_of self) (roots_of self) (begin (rules_for self) (question request.ticket (labels request.name) request.kind.number) (state_of self)).state _ es refl more (begins j (question request.ticket (labels request.name) request.kind.number));
      promise = tt;
    }
