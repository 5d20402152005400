use Rattle.std.proofs.Common.{map, Ok, inl, inr, ⊎_elim, subst, ◌∙◌}
use Rattle.std.proofs.lemmas.Result.{err_from_is_err_and}
use Rattle.zones.specs.Zones.{zone_of}
use Rattle.zonetext.specs.Readings.{piece_of}
use Rattle.zonetext.specs.Numbered.{said_left, end_of, line_of, SaysNext}
use Rattle.zonetext.specs.Loading.{Adds}
use Rattle.zonetext.proofs.Loading.{no_more, added_line, refused_line, undivided}
use Rattle.zonetext.proofs.reading.add_sets.Goals as goal

pub returns-in_err-read_said : goal.returns-in_err-read_said
returns-in_err-read_said c =
    let p = err_from_is_err_and c.from_residual.result c.from_residual.ensures.1 in
    rw (p.1, p.2)
    (⊎_elim (λ m. inl m) (λ h. inr (c.loop-line.invariant ∙ h)) (undivided (zone_of c.loop-line.zone) (said_left c.loop-line.lines) (said_left c.read_said.new.self) c.in_err-read_said.field-0.0 c.in_err-read_said.ensures.said))

pub returns-in_err-at : goal.returns-in_err-at
returns-in_err-at c =
    let p = err_from_is_err_and c.from_residual-in_err-at.result c.from_residual-in_err-at.ensures.1 in
    let e = c.in_err-at.ensures in
    let z = zone_of c.loop-line.zone in
    let said = subst (λ b. SaysNext (said_left c.loop-line.lines) (Ok b) c.read_said.new.said (said_left c.read_said.new.self) (end_of c.read_said.new.self) c.read_said.new.self.number) c.if-branch.true c.in_ok-read_said.ensures.said in
    let due = subst (λ r. Adds z (map piece_of c.read_said.new.said.pieces.items) r (zone_of c.add_set.new.zone)) e.0 c.add_set.ensures in
    rw (p.1, p.2)
    (⊎_elim (λ m. inl m) (λ h. inr (c.loop-line.invariant ∙ refused_line z (said_left c.loop-line.lines) (said_left c.read_said.new.self) (line_of c.read_said.new.said) said c.in_err-at.field-0.0 e.1 h)) due)

pub loop-line-preserved : goal.loop-line-preserved
loop-line-preserved c =
    let z = zone_of c.loop-line.zone in
    let said = subst (λ b. SaysNext (said_left c.loop-line.lines) (Ok b) c.read_said.new.said (said_left c.read_said.new.self) (end_of c.read_said.new.self) c.read_said.new.self.number) c.if-branch.true c.in_ok-read_said.ensures.said in
    let due = subst (λ r. Adds z (map piece_of c.read_said.new.said.pieces.items) r (zone_of c.add_set.new.zone)) c.in_ok-at.ensures c.add_set.ensures in
    c.loop-line.invariant ∙ added_line z (said_left c.loop-line.lines) (said_left c.read_said.new.self) (line_of c.read_said.new.said) said (zone_of c.add_set.new.zone) due

pub returns : goal.returns
returns c =
    let said = subst (λ b. SaysNext (said_left c.loop-line.lines) (Ok b) c.read_said.new.said (said_left c.read_said.new.self) (end_of c.read_said.new.self) c.read_said.new.self.number) c.if-branch.false c.in_ok-read_said.ensures.said in
    c.loop-line.invariant ∙ no_more (zone_of c.loop-line.zone) (said_left c.loop-line.lines) said.0
