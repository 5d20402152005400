use Rattle.std.proofs.Common.{inl, inr, ⊎_elim, sym, ap, ◌∙◌, rules}
use Rattle.std.proofs.lemmas.Result.{err_from_is_err_and}
use Rattle.wire.specs.Packets.{IsQuery, IsResponse, IsRequest, IsPart, packet_as}
use Rattle.wire.proofs.Shaping.{no_first, other_first, query_first, response_first, request_first, part_first, no_kind}
use Rattle.wire.proofs.packet.Packet.read.Goals.{in_default-via-in-Some+in_default, in_default-via-in_default}
use Rattle.wire.proofs.packet.Packet.read.Goals as goal

pub returns-in_err-read-in-Some-eq1 : goal.returns-in_err-read-in-Some-eq1
returns-in_err-read-in-Some-eq1 c =
    let p = err_from_is_err_and c.from_residual.result c.from_residual.ensures.1 in
    let first = query_first c.args.bytes.now (search rules) c.in-Some-eq1.field-0 _ (rw c.new-fields.ensures at c.in-Some-eq1.ensures) (search rules) in
    rw (p.1, p.2) (inl (first ∙ ap (packet_as IsQuery) (sym c.in_err-read-in-Some-eq1.ensures)))

pub returns-in_ok-read-in-Some-eq1 : goal.returns-in_ok-read-in-Some-eq1
returns-in_ok-read-in-Some-eq1 c =
    let first = query_first c.args.bytes.now (search rules) c.in-Some-eq1.field-0 _ (rw c.new-fields.ensures at c.in-Some-eq1.ensures) (search rules) in
    first ∙ ap (packet_as IsQuery) (sym c.in_ok-read-in-Some-eq1.ensures)

pub returns-in_err-read-in-Some-eq2 : goal.returns-in_err-read-in-Some-eq2
returns-in_err-read-in-Some-eq2 c =
    let p = err_from_is_err_and c.from_residual-in_err-read-in-Some-eq2.result c.from_residual-in_err-read-in-Some-eq2.ensures.1 in
    let first = response_first c.args.bytes.now (search rules) c.in-Some-eq2.field-0 _ (rw c.new-fields.ensures at c.in-Some-eq2.ensures) (search rules) in
    rw (p.1, p.2) (⊎_elim (λ d. inl (first ∙ ap (packet_as IsResponse) d)) (λ m. inr m) c.in_err-read-in-Some-eq2.ensures)

pub returns-in_ok-read-in-Some-eq2 : goal.returns-in_ok-read-in-Some-eq2
returns-in_ok-read-in-Some-eq2 c =
    let first = response_first c.args.bytes.now (search rules) c.in-Some-eq2.field-0 _ (rw c.new-fields.ensures at c.in-Some-eq2.ensures) (search rules) in
    first ∙ ap (packet_as IsResponse) c.in_ok-read-in-Some-eq2.ensures

pub returns-in_err-read-in-Some-eq3 : goal.returns-in_err-read-in-Some-eq3
returns-in_err-read-in-Some-eq3 c =
    let p = err_from_is_err_and c.from_residual-in_err-read-in-Some-eq3.result c.from_residual-in_err-read-in-Some-eq3.ensures.1 in
    let first = request_first c.args.bytes.now (search rules) c.in-Some-eq3.field-0 _ (rw c.new-fields.ensures at c.in-Some-eq3.ensures) (search rules) in
    rw (p.1, p.2) (inl (first ∙ ap (packet_as IsRequest) (sym c.in_err-read-in-Some-eq3.ensures)))

pub returns-in_ok-read-in-Some-eq3 : goal.returns-in_ok-read-in-Some-eq3
returns-in_ok-read-in-Some-eq3 c =
    let first = request_first c.args.bytes.now (search rules) c.in-Some-eq3.field-0 _ (rw c.new-fields.ensures at c.in-Some-eq3.ensures) (search rules) in
    first ∙ ap (packet_as IsRequest) (sym c.in_ok-read-in-Some-eq3.ensures)

pub returns-in_err-read-in-Some-eq4 : goal.returns-in_err-read-in-Some-eq4
returns-in_err-read-in-Some-eq4 c =
    let p = err_from_is_err_and c.from_residual-in_err-read-in-Some-eq4.result c.from_residual-in_err-read-in-Some-eq4.ensures.1 in
    let first = part_first c.args.bytes.now (search rules) c.in-Some-eq4.field-0 _ (rw c.new-fields.ensures at c.in-Some-eq4.ensures) (search rules) in
    rw (p.1, p.2) (⊎_elim (λ d. inl (first ∙ ap (packet_as IsPart) d)) (λ m. inr m) c.in_err-read-in-Some-eq4.ensures)

pub returns-in_ok-read-in-Some-eq4 : goal.returns-in_ok-read-in-Some-eq4
returns-in_ok-read-in-Some-eq4 c =
    let first = part_first c.args.bytes.now (search rules) c.in-Some-eq4.field-0 _ (rw c.new-fields.ensures at c.in-Some-eq4.ensures) (search rules) in
    first ∙ ap (packet_as IsPart) c.in_ok-read-in-Some-eq4.ensures

pub returns-in_default : goal.returns-in_default
returns-in_default c = inl (elim c.in_default.branch [
  | in_default-via-in-Some+in_default w ↦
      let t = w.in_default.field-0-test in
      other_first c.args.bytes.now (search rules) _ _ (rw c.new-fields.ensures at w.in_default.ensures) (no_kind _ _ t.0.0.0.1 t.0.0.1 t.0.1 t.1)
  | in_default-via-in_default w ↦
      let none = rw (w.in_default.is, c.new-fields.ensures) at c.byte.ensures in
      no_first c.args.bytes.now (search rules) none.0
])
