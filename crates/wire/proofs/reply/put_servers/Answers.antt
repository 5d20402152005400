use Rattle.std.proofs.Common.{◌≡◌, ◌&&◌, leb, true, length, map, vec_items, ap, sym, ◌∙◌, arith, rules}
use Rattle.std.proofs.lemmas.Bool.{and_parts, leb-true}
use Rattle.names.specs.Wire.{wire}
use Rattle.meaning.specs.Model.{delegates, fits}
use Rattle.meaning.specs.Speech.{delegation_of}
use Rattle.records.specs.Contents.{bytes_of, content_of}
use Rattle.wire.specs.Parts.{are_addresses}
use Rattle.wire.proofs.Sizes.{none_short, addresses_short}
use Rattle.wire.proofs.reply.put_servers.Goals as goal

pub returns-in-Delegation-clause-short : goal.returns-in-Delegation-clause-short
returns-in-Delegation-clause-short c =
    let servers = map bytes_of (vec_items c.in-Delegation.to.servers) in
    let k = c.args.kind.number in
    let kept : are_addresses servers ≡ true = rw c.as_slice.ensures.value at c.addresses.ensures.kept in
    let fit = ap (λ d. fits k (content_of d)) (sym c.in-Delegation.is) ∙ c.requires in
    let few = leb-true (length servers) 16 (and_parts (delegates k && leb 1 (length servers)) (leb (length servers) 16) fit).1 in
    let s = addresses_short servers few kept in
    let e = ap (λ d. length (wire (delegation_of (content_of d)).servers)) c.in-Delegation.is in
    omega arith

pub returns-in_default : goal.returns-in_default
returns-in_default c =
    let n = none_short in
    record { put = search rules; short = search rules }
