use Rattle.std.proofs.Common.{sym, ap, ◌∙◌, arith}
use Rattle.names.specs.Names.{labels}
use Rattle.zones.specs.Zones.{sets_of, tells_data, tells_nothing}
use Rattle.zones.proofs.Beside.{tells_here, tells_first, tells_after, tells_before}
use Rattle.zones.proofs.sets.SortedSets.reply_among.Goals.{then-is_data-via-then-is_data, then-is_data-via-else-is_data+then-at-eq0}
use Rattle.zones.proofs.sets.SortedSets.reply_among.Goals as goal

pub returns-then-is_data : goal.returns-then-is_data
returns-then-is_data c =
    let s = c.args.self.now in
    let at = c.place_between-at.ensures.value in
    elim c.then-is_data.branch [
      | then-is_data-via-then-is_data w ↦
          c.reply_at-here.ensures
          ∙ tells_here (sets_of s) s.ordered c.requires.alone (labels c.args.name.now) c.args.kind.number c.place_between-at.result at (ap tells_data (sym c.reply_at-here.ensures) ∙ sym c.is_data.ensures ∙ w.if-is_data.true)
      | then-is_data-via-else-is_data+then-at-eq0 w ↦ c.reply_at-here.ensures ∙ tells_first (sets_of s) s.ordered c.requires.alone (labels c.args.name.now) c.args.kind.number c.place_between-at.result at w.if-at-eq0.true
    ]

pub returns-then-is_no_name : goal.returns-then-is_no_name
returns-then-is_no_name c =
    c.reply_at-here.ensures
    ∙ tells_after (sets_of c.args.self.now) c.args.self.now.ordered c.requires.alone (labels c.args.name.now) c.args.kind.number c.place_between-at.result c.place_between-at.ensures.value (omega arith) (ap tells_nothing (sym c.reply_at-before.ensures) ∙ sym c.if-is_no_name.ensures)

pub returns-else-is_no_name : goal.returns-else-is_no_name
returns-else-is_no_name c =
    c.reply_at-before.ensures
    ∙ tells_before (sets_of c.args.self.now) c.args.self.now.ordered c.requires.alone (labels c.args.name.now) c.args.kind.number c.place_between-at.result c.place_between-at.ensures.value (omega arith) (ap tells_data (sym c.reply_at-here.ensures) ∙ sym c.if-is_data.ensures) (ap tells_nothing (sym c.reply_at-before.ensures) ∙ sym c.if-is_no_name.ensures)
