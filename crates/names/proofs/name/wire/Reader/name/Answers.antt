use Rattle.std.proofs.Common.{◌≡◌, ◌+◌, ◌-◌, ◌<◌, false, length, get_or, Ok, sym, ap, ◌∙◌, subst, arith, rules}
use Rattle.std.specs.List.{between}
use Rattle.std.proofs.lemmas.Slice.{first_rest}
use Rattle.names.specs.declared.fault.Fault.TheVariants.{BadName}
use Rattle.names.specs.Names.{labels, made}
use Rattle.names.specs.Wire.{read_wire, name_read, rest_read}
use Rattle.names.proofs.Cutting.{Cutting, none_cut, one_cut, cut_short, cut_bad, cut_good, read_empty}
use Rattle.names.proofs.name.wire.Reader.name.Goals as goal

pub returns-in_default : goal.returns-in_default
returns-in_default c =
    let bs = c.args.self.now.rest.now in
    let none : length bs ≡ 0 = search rules in
    let e = read_empty bs none in
    record { value = ap name_read (sym e); rest = ap (λ r. rest_read r bs) (sym e) }

pub loop-init : goal.loop-init
loop-init c =
    let bs = c.args.self.now.rest.now in
    let n = get_or bs 0 0 in
    let z : n ≡ n - 0 = omega arith in
    subst (λ k. Cutting n (between 1 (length bs) bs) (made false (labels c.root-name.result)) k (between 1 (length bs) bs)) z (none_cut n (between 1 (length bs) bs) _ (ap Ok c.root-name.ensures))

pub returns-in_default-cut_label : goal.returns-in_default-cut_label
returns-in_default-cut_label c =
    let bs = c.args.self.now.rest.now in
    let some : 0 < length bs = search rules in
    let e = ap read_wire (first_rest bs 0 some) ∙ cut_short _ _ _ _ _ c.loop.invariant (omega arith) (sym c.in_default-cut_label.ensures) in
    record { value = ap name_read (sym e); rest = ap (λ r. rest_read r bs) (sym e) }

pub returns : goal.returns
returns c =
    let bs = c.args.self.now.rest.now in
    let some : 0 < length bs = search rules in
    let e = ap read_wire (first_rest bs 0 some) ∙ cut_good _ _ _ _ _ (labels c.loop.name) c.loop.invariant (omega arith) (ap (λ b. made b (labels c.loop.name)) c.if-is_bad.false) in
    record { value = ap name_read (sym e); rest = ap (λ r. rest_read r bs) (sym e) }

pub loop-preserved : goal.loop-preserved
loop-preserved c =
    let bs = c.args.self.now.rest.now in
    let n = get_or bs 0 0 in
    let k : n - c.loop.counter - 1 ≡ n - (c.loop.counter + 1) = omega arith in
    subst (λ j. Cutting n (between 1 (length bs) bs) (made c.push_label-is_bad.result (labels c.push_label-is_bad.new.name)) j c.in-Some.after.now) k
    (one_cut _ _ _ _ _ _ c.in-Some.label.now c.in-Some.after.now c.loop.invariant (omega arith) (sym c.in-Some.ensures) c.push_label-is_bad.ensures.value)

pub returns-then-is_bad : goal.returns-then-is_bad
returns-then-is_bad c =
    let bs = c.args.self.now.rest.now in
    let some : 0 < length bs = search rules in
    let e = ap read_wire (first_rest bs 0 some) ∙ cut_bad _ _ _ _ _ BadName c.loop.invariant (omega arith) (ap (λ b. made b (labels c.loop.name)) c.if-is_bad.true) in
    record { value = ap name_read (sym e); rest = ap (λ r. rest_read r bs) (sym e) }
