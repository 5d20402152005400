use Rattle.std.proofs.Common.{◌≡◌, ◌^◌, true, ltb, ◌∷◌, ◌++◌, vec_items, sym, subst, refl, ap, ◌∙◌, inl, arith, rules}
use Rattle.std.specs.Fmt.{decimal}
use Rattle.names.specs.Names.{labels}
use Rattle.records.specs.Sets.{set_of}
use Rattle.zonetext.specs.TextLaws.{good_data}
use Rattle.zonetext.specs.Written.{pieces_text, name_text, data_pieces, set_line, holds_data}
use Rattle.zonetext.proofs.Appending.{set_done, line_held, line_too_long, line_ended}
use Rattle.zonetext.proofs.Goodness.{set_good}
use Rattle.zonetext.proofs.writing.write_set.Goals as goal

pub returns-then-len-start-gt-MAX_LINE-clause-written : goal.returns-then-len-start-gt-MAX_LINE-clause-written
returns-then-len-start-gt-MAX_LINE-clause-written c =
    let s = set_of c.args.set.now in
    let apex = labels c.args.apex.now in
    let name = c.in_ok-write_name.ensures ∙ ap (λ n. vec_items c.extend_from_slice.new.self ++ name_text apex n) c.name.ensures in
    let numbers : vec_items c.write.new.self ≡ vec_items c.write_name.new.out ++ (32 ∷ (decimal s.kind ++ (32 ∷ decimal s.ttl))) = search rules in
    let rest = subst (λ d. (holds_data d ≡ true) × (vec_items c.write_data.new.out ≡ vec_items c.write.new.self ++ pieces_text (data_pieces apex d))) c.data.ensures c.in_ok-write_data.ensures.written in
    let line : vec_items c.write_data.new.out ≡ vec_items c.args.out.now ++ set_line apex s = set_done (vec_items c.args.out.now) _ _ _ _ _ _ _ (data_pieces apex s.content) c.in_ok-extend_from_slice.ensures.items name numbers rest.1 in
    inl (refl, line_too_long apex s (vec_items c.args.out.now) (vec_items c.write_data.new.out) line (omega arith))

pub returns-clause-written : goal.returns-clause-written
returns-clause-written c =
    let s = set_of c.args.set.now in
    let apex = labels c.args.apex.now in
    let name = c.in_ok-write_name.ensures ∙ ap (λ n. vec_items c.extend_from_slice.new.self ++ name_text apex n) c.name.ensures in
    let numbers : vec_items c.write.new.self ≡ vec_items c.write_name.new.out ++ (32 ∷ (decimal s.kind ++ (32 ∷ decimal s.ttl))) = search rules in
    let rest = subst (λ d. (holds_data d ≡ true) × (vec_items c.write_data.new.out ≡ vec_items c.write.new.self ++ pieces_text (data_pieces apex d))) c.data.ensures c.in_ok-write_data.ensures.written in
    let line : vec_items c.write_data.new.out ≡ vec_items c.args.out.now ++ set_line apex s = set_done (vec_items c.args.out.now) _ _ _ _ _ _ _ (data_pieces apex s.content) c.in_ok-extend_from_slice.ensures.items name numbers rest.1 in
    (line_held apex s (vec_items c.args.out.now) (vec_items c.write_data.new.out) line (omega arith) rest.0, line_ended (vec_items c.args.out.now) (set_line apex s) (vec_items c.write_data.new.out) _ line c.in_ok-push.ensures.items)

pub returns-clause-good : goal.returns-clause-good
returns-clause-good c =
    let time : ltb c.args.set.now.ttl.0 (2 ^ 32) ≡ true = search rules in
    set_good c.args.set.now time (ap good_data (sym c.data.ensures) ∙ c.in_ok-write_data.ensures.good)
