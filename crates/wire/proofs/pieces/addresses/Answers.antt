use Rattle.std.proofs.Common.{◌≡◌, [], ◌∷◌, ◌++◌, map, length, vec_items, Ok, Err, inl, sym, ap, ◌∙◌, arith, rules}
use Rattle.std.proofs.lemmas.List.{map-append}
use Rattle.std.proofs.lemmas.Bool.{cond-true, cond-false}
use Rattle.names.specs.declared.fault.Fault.TheVariants.{BadData}
use Rattle.records.specs.Contents.{bytes_of}
use Rattle.wire.specs.Parts.{are_addresses}
use Rattle.wire.proofs.Copying.{never_empty, none_copied, one_copied, all_copied, cut_shorter, one_address, bad_address}
use Rattle.wire.proofs.pieces.addresses.Goals as goal

pub returns-in_default : goal.returns-in_default
returns-in_default c = λ ps h. absurd (never_empty c.args.list.now ps (omega arith) h)

pub loop-piece-init : goal.loop-piece-init
loop-piece-init c =
    let none : map bytes_of (vec_items c.in_ok-addresses.addresses) ≡ [] = search rules in
    record { copied = λ ps h. rw none (none_copied c.args.list.now ps (omega arith) h); good = ap are_addresses none }

pub loop-piece-preserved : goal.loop-piece-preserved
loop-piece-preserved c =
    let whole : c.in-Ok.bytes ≡ c.in-Some.piece.now = search rules in
    let size : length c.in-Some.piece.now ≡ 8 = search rules in
    let more : map bytes_of (vec_items c.push.new.self) ≡ map bytes_of (vec_items c.loop-piece.addresses) ++ c.in-Some.piece.now ∷ [] = search (rules, map-append) in
    record {
      copied = λ ps h. rw more (one_copied ps _ _ _ _ (c.loop-piece.invariant.copied ps h) (sym c.in-Some.ensures));
      good = ap are_addresses more ∙ one_address (map bytes_of (vec_items c.loop-piece.addresses)) c.in-Some.piece.now c.loop-piece.invariant.good size;
    }

pub returns-in_default-try_from : goal.returns-in_default-try_from
returns-in_default-try_from c = λ ps h.
    let bad = bad_address ps _ _ _ c.in-Some.after.now (c.loop-piece.invariant.copied ps h) c.loop-piece.invariant.good (sym c.in-Some.ensures) c.in_default-try_from.ensures.1 in
    inl (cond-false (are_addresses ps) (Ok ps) (Err BadData) bad)

pub loop-piece-smaller : goal.loop-piece-smaller
loop-piece-smaller c = cut_shorter _ _ _ (sym c.in-Some.ensures)

pub returns : goal.returns
returns c = λ ps h.
    let all = all_copied ps _ _ (c.loop-piece.invariant.copied ps h) (sym c.in_default-cut_piece.ensures) in
    cond-true (are_addresses ps) (Ok ps) (Err BadData) (ap are_addresses all ∙ c.loop-piece.invariant.good) ∙ ap Ok all
