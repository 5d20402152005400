use Rattle.std.proofs.Common.{vec_items, sym}
use Rattle.zonetext.proofs.Appending.{other_done, other_given}
use Rattle.zonetext.proofs.writing.data.write_other.Goals as goal

pub returns-then-is_empty-clause-written : goal.returns-then-is_empty-clause-written
returns-then-is_empty-clause-written c = other_done c.args.piece.now (vec_items c.args.out.now) _ (sym c.if-is_empty.ensures) c.in_ok-extend_from_slice.ensures.items

pub returns-clause-written : goal.returns-clause-written
returns-clause-written c = other_given c.args.piece.now (vec_items c.args.out.now) _ _ c.write_hex.result (sym c.if-is_empty.ensures) c.in_ok-push.ensures.items c.write_hex.ensures.written
