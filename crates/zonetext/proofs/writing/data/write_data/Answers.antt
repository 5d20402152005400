use Rattle.std.proofs.Common.{vec_items, sym, ap, subst, ◌∙◌}
use Rattle.names.specs.Names.{labels}
use Rattle.names.proofs.Laws.{labels_proper}
use Rattle.records.specs.Contents.{content_of}
use Rattle.zonetext.specs.Appended.{Appends, AppendsIf}
use Rattle.zonetext.specs.TextLaws.{good_data}
use Rattle.zonetext.specs.Written.{name_piece, name_text, pieces_text, data_pieces, holds_data}
use Rattle.zonetext.proofs.Appending.{piece_held}
use Rattle.zonetext.proofs.Goodness.{if_ok}
use Rattle.zonetext.proofs.writing.data.write_data.Goals as goal

pub returns-in_ok-push-in-Alias-clause-written : goal.returns-in_ok-push-in-Alias-clause-written
returns-in_ok-push-in-Alias-clause-written c =
    let start = vec_items c.args.out.now in
    let apex = labels c.args.apex.now in
    let to = subst (λ n. Appends (vec_items c.push.new.self) (name_text apex (labels n)) c.write_name.result (vec_items c.write_name.new.out)) c.deref.ensures c.write_name.ensures in
    subst (λ d. AppendsIf (holds_data (content_of d)) start (pieces_text (data_pieces apex (content_of d))) c.write_name.result (vec_items c.write_name.new.out)) (sym c.in-Alias.is)
    (piece_held (name_piece apex (labels c.in-Alias.name.value)) start _ _ c.write_name.result c.in_ok-push-in-Alias.ensures.items to)

pub returns-in_ok-push-in-Alias-clause-good : goal.returns-in_ok-push-in-Alias-clause-good
returns-in_ok-push-in-Alias-clause-good c = if_ok c.write_name.result (ap (λ d. good_data (content_of d)) c.in-Alias.is ∙ labels_proper c.in-Alias.name.value)
