use Rattle.std.proofs.Common.{length, ap, arith, rules}
use Rattle.names.specs.Names.{labels}
use Rattle.names.specs.Wire.{wire}
use Rattle.names.proofs.Laws.{labels_proper}
use Rattle.meaning.specs.Speech.{target_of}
use Rattle.records.specs.Contents.{content_of}
use Rattle.wire.proofs.Sizes.{none_short, name_short}
use Rattle.wire.proofs.reply.put_target.Goals as goal

pub returns-in-Alias-clause-short : goal.returns-in-Alias-clause-short
returns-in-Alias-clause-short c =
    let to = c.in-Alias.name.value in
    let n = name_short (labels to) (labels_proper to) in
    let e = ap (λ d. length (wire (target_of (content_of d)))) c.in-Alias.is in
    omega arith

pub returns-in_default : goal.returns-in_default
returns-in_default c =
    let n = none_short in
    record { put = search rules; short = search rules }
