use Rattle.std.proofs.Common.{vec_items, rules}
use Rattle.zonetext.proofs.Appending.{text_done}
use Rattle.zonetext.proofs.writing.data.write_text.Goals as goal

pub returns : goal.returns
returns c = (
  search rules,
  text_done c.args.text.now (vec_items c.args.out.now) _ _ _ c.in_ok-extend_from_slice.ensures.items c.in_ok-extend_from_slice-2.ensures.items c.in_ok-push.ensures.items,
)
