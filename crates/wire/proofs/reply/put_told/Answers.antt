use Rattle.std.proofs.Common.{ℕ, [], length, sym, ap, ◌∙◌, arith, length-append, rules}
use Rattle.names.proofs.Laws.{labels_proper}
use Rattle.names.specs.Names.{labels}
use Rattle.names.specs.Wire.{wire}
use Rattle.meaning.specs.Speech.{delegation_of, target_of, said_by}
use Rattle.records.specs.Contents.{content_of}
use Rattle.zones.specs.declared.reply.Reply.{Reply}
use Rattle.zones.specs.Zones.{speaker_of}
use Rattle.wire.specs.Packets.{told_bytes}
use Rattle.wire.specs.Parts.{content_keeps}
use Rattle.wire.specs.Replies.{told_for}
use Rattle.wire.proofs.Front.{data_short}
use Rattle.wire.proofs.Sizes.{name_short, none_short}
use Rattle.wire.proofs.reply.put_told.Goals as goal

abbrev told_len : Reply → ℕ
told_len r = length (told_bytes (told_for (said_by (speaker_of r))))

-- ---- data

pub returns-in-Data-clause-short : goal.returns-in-Data-clause-short
returns-in-Data-clause-short c =
    let set = c.in-Data.set.now in
    let s = data_short set.kind.number (content_of set.content) set.fitting (ap content_keeps (sym c.data.ensures) ∙ c.data-in-Data.ensures.kept) in
    let e = ap told_len c.in-Data.is in
    omega arith

-- ---- an alias

pub returns-in-Alias-clause-short : goal.returns-in-Alias-clause-short
returns-in-Alias-clause-short c =
    let target = wire (target_of (content_of c.in-Alias.set.now.content)) in
    let s = c.put_target.ensures.short in
    let d = ap (λ x. length (wire (target_of x))) c.data-in-Alias.ensures in
    let a = length-append target (wire []) in
    let n = none_short in
    let e = ap told_len c.in-Alias.is in
    omega arith

-- ---- a referral

pub returns-in-Referral-clause-short : goal.returns-in-Referral-clause-short
returns-in-Referral-clause-short c =
    let set = c.in-Referral.set.now in
    let s = c.put_servers.ensures.short in
    let d = ap (λ x. length (wire (delegation_of x).servers)) c.data-in-Referral.ensures in
    let n = name_short (labels set.name) (labels_proper set.name) in
    let a = length-append (wire (labels set.name)) (wire (delegation_of (content_of set.content)).servers) in
    let e = ap told_len c.in-Referral.is in
    omega arith

-- ---- nothing

pub returns-in-NoData-clause-short : goal.returns-in-NoData-clause-short
returns-in-NoData-clause-short c =
    let n = none_short in
    search rules
