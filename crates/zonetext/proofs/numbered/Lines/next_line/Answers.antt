use Rattle.std.proofs.Common.{length, ◌∙◌, sym, arith}
use Rattle.std.proofs.lemmas.Bool.{eqb-true, eqb-false}
use Rattle.std.proofs.lemmas.List.{take_rest}
use Rattle.zonetext.proofs.Runs.{first_byte}
use Rattle.zonetext.proofs.Lining.{next_is, no_lines}
use Rattle.zonetext.proofs.numbered.Lines.next_line.Goals as goal

pub returns-then-is_empty-clause-line : goal.returns-then-is_empty-clause-line
returns-then-is_empty-clause-line c = no_lines c.args.self.now.rest.now (eqb-true _ 0 (sym c.if-is_empty.ensures))

pub returns-clause-line : goal.returns-clause-line
returns-clause-line c =
    let t = c.args.self.now.rest.now in
    let some = eqb-false (length t) 0 (sym c.if-is_empty.ensures) in
    next_is t c.split_at.result.0.now c.split_at.result.1.now _ c.unwrap_or.result c.min.result (omega arith) (c.unwrap_or.ensures ∙ first_byte 10 t c.memchr-end.result c.memchr-end.ensures) c.split_at.ensures.front c.split_at.ensures.back c.min.ensures (take_rest c.split_at.result.1.now c.min.result)
