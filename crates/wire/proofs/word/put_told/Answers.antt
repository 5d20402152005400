use Rattle.std.proofs.Common.{ℕ, ◌≡◌, [], leb, true, length, map, vec_items, sym, ap, ◌∙◌, arith, length-append, rules}
use Rattle.std.proofs.lemmas.Bool.{and_parts, leb-true}
use Rattle.names.proofs.Laws.{labels_proper}
use Rattle.names.specs.Names.{labels}
use Rattle.names.specs.Wire.{wire}
use Rattle.records.specs.Contents.{bytes_of, content_of}
use Rattle.cache.specs.declared.word.Said.{Said}
use Rattle.cache.specs.Entries.{said_of}
use Rattle.wire.specs.Packets.{told_bytes}
use Rattle.wire.specs.Parts.{are_addresses}
use Rattle.wire.specs.Replies.{told_for, said_fits}
use Rattle.wire.proofs.Front.{data_short}
use Rattle.wire.proofs.Sizes.{name_short, none_short, addresses_short}
use Rattle.wire.proofs.word.put_told.Goals as goal

abbrev told_len : Said → ℕ
told_len s = length (told_bytes (told_for (said_of s)))

pub returns-in-Data-clause-short : goal.returns-in-Data-clause-short
returns-in-Data-clause-short c =
    let k = c.args.kind.number in
    let fit = ap (λ s. said_fits k (said_of s)) (sym c.in-Data.is) ∙ c.requires in
    let s = data_short k (content_of c.in-Data.content) fit c.data.ensures.kept in
    let e = ap told_len c.in-Data.is in
    omega arith

pub returns-in-Alias-clause-short : goal.returns-in-Alias-clause-short
returns-in-Alias-clause-short c =
    let to = c.in-Alias.to in
    let s = name_short (labels to) (labels_proper to) in
    let a = length-append (wire (labels to)) (wire []) in
    let n = none_short in
    let e = ap told_len c.in-Alias.is in
    omega arith

pub returns-in-Referral-clause-short : goal.returns-in-Referral-clause-short
returns-in-Referral-clause-short c =
    let referral = c.in-Referral.referral in
    let servers = map bytes_of (vec_items referral.to.servers) in
    let kept : are_addresses servers ≡ true = rw c.as_slice.ensures.value at c.addresses.ensures.kept in
    let fit = ap (λ s. said_fits c.args.kind.number (said_of s)) (sym c.in-Referral.is) ∙ c.requires in
    let few = leb-true (length servers) 16 (and_parts (leb 1 (length servers)) (leb (length servers) 16) fit).1 in
    let s = addresses_short servers few kept in
    let n = name_short (labels referral.name) (labels_proper referral.name) in
    let a = length-append (wire (labels referral.name)) (wire servers) in
    let e = ap told_len c.in-Referral.is in
    omega arith

pub returns-in-NoData-clause-short : goal.returns-in-NoData-clause-short
returns-in-NoData-clause-short c =
    let n = none_short in
    search rules
