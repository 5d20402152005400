use Rattle.std.proofs.Common.{sym, subst}
use Rattle.zonetext.specs.Numbered.{lines_left}
use Rattle.zonetext.specs.Loading.{Tops}
use Rattle.zonetext.proofs.Loading.{top_is}
use Rattle.zonetext.proofs.reading.apex_of.Goals as goal

pub returns : goal.returns
returns c =
    let l = c.new-lines.result in
    subst (λ due. Tops due c.top.result) (sym (top_is c.args.text.now l.number (lines_left l) c.new-lines.ensures.lines c.new-lines.ensures.number)) c.top.ensures.apex
