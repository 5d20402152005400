use Rattle.std.proofs.Common.{rules, ◌≡◌, ◌+◌, ◌<◌, ◌⊎◌, map, length, Some, None, inl, inr, ⊎_elim, sym, ap, ◌∙◌, arith}
use lib.ListN.{length-map}
use Rattle.std.proofs.lemmas.List.{nil_from_length}
use Rattle.std.proofs.lemmas.Result.{err_from_is_err_and}
use Rattle.names.specs.declared.fault.Fault.TheVariants.{NoMemory, Malformed}
use Rattle.zonetext.specs.Division.{pieces_of}
use Rattle.zonetext.specs.Texts.{lines_of}
use Rattle.zonetext.specs.Readings.{piece_of}
use Rattle.zonetext.specs.Numbered.{lines_left, end_of}
use Rattle.zonetext.proofs.Lining.{passed_over, said_here, faulty_here, end_same, none_left, of_ok, of_err}
use Rattle.zonetext.proofs.numbered.Lines.read_said.Goals.{In_default}
use Rattle.zonetext.proofs.numbered.Lines.read_said.Goals as goal

pub returns-in_err-at-clause-said : goal.returns-in_err-at-clause-said
returns-in_err-at-clause-said c =
    let x = c.loop-number.self in
    let y = c.next_line.new.self in
    let p = err_from_is_err_and c.from_residual.result c.from_residual.ensures.1 in
    let e = c.in_err-at.ensures in
    let d = of_err _ _ (λ _. pieces_of c.in-Some.line.now ≡ Some (map piece_of c.divide.new.pieces.items)) (λ f. ((pieces_of c.in-Some.line.now ≡ None) × (f ≡ Malformed)) ⊎ (f ≡ NoMemory)) e.0 c.divide.ensures in
    rw (p.1, p.2)
    (⊎_elim (λ h. inr (h.1, sym c.loop-number.invariant.0 ∙ faulty_here (lines_left x) (lines_left y) x.number y.number c.in_err-at.field-0.0.line c.in-Some.line.now c.in-Some.ensures.line c.in-Some.ensures.number.1 (e.1 ∙ c.in-Some.ensures.number.0) h.0)) (λ h. inl h) d)

pub returns-then-not-is_empty-clause-said : goal.returns-then-not-is_empty-clause-said
returns-then-not-is_empty-clause-said c =
    let x = c.loop-number.self in
    let y = c.next_line.new.self in
    let ps = c.divide.new.pieces.items in
    let m = length-map ps piece_of in
    let some : 0 < length ps = search rules in
    sym c.loop-number.invariant.0
    ∙ said_here (lines_left x) (lines_left y) x.number y.number c.in-Some.number c.in-Some.line.now c.in-Some.ensures.line c.in-Some.ensures.number.1 c.in-Some.ensures.number.0 (map piece_of ps)
    (of_ok _ _ (λ _. pieces_of c.in-Some.line.now ≡ Some (map piece_of c.divide.new.pieces.items)) (λ f. ((pieces_of c.in-Some.line.now ≡ None) × (f ≡ Malformed)) ⊎ (f ≡ NoMemory)) c.in_ok-at.ensures c.divide.ensures) (omega arith)

pub loop-number-preserved : goal.loop-number-preserved
loop-number-preserved c =
    let x = c.loop-number.self in
    let y = c.next_line.new.self in
    let ps = c.divide.new.pieces.items in
    let l = c.in-Some.ensures.shorter in
    let k = c.loop-number.invariant.2 in
    let none = nil_from_length ps (search rules) in
    let divided = of_ok _ _ (λ _. pieces_of c.in-Some.line.now ≡ Some (map piece_of c.divide.new.pieces.items)) (λ f. ((pieces_of c.in-Some.line.now ≡ None) × (f ≡ Malformed)) ⊎ (f ≡ NoMemory)) c.in_ok-at.ensures c.divide.ensures in (
      passed_over (lines_left x) (lines_left y) x.number y.number c.in-Some.number c.in-Some.line.now c.in-Some.ensures.line c.in-Some.ensures.number.1 c.in-Some.ensures.number.0 (divided ∙ ap (λ qs. Some (map piece_of qs)) none) ∙ c.loop-number.invariant.0,
      end_same (lines_left x) (lines_left y) x.number y.number c.in-Some.number c.in-Some.line.now c.in-Some.ensures.line c.in-Some.ensures.number.1 c.in-Some.ensures.number.0 ∙ c.loop-number.invariant.1,
      omega arith,
    )

same_end : (c : In_default) → c.loop-number.self.number + length (lines_left c.loop-number.self) ≡ end_of c.next_line.new.self
same_end c = λ i. sym c.in_default.ensures.number i + length (lines_of (sym c.in_default.ensures.shorter i).now)

pub returns-clause-said : goal.returns-clause-said
returns-clause-said c =
    let x = c.loop-number.self in
    let y = c.next_line.new.self in
    let n = none_left (lines_left x) x.number c.in_default.ensures.line in
    (sym c.loop-number.invariant.0 ∙ n.0, c.in_default.ensures.number ∙ n.1 ∙ same_end c)
