use Rattle.std.proofs.Common.{length, ap, arith}
use Rattle.names.specs.Labels.{written}
use Rattle.names.specs.Names.{labels}
use Rattle.names.specs.Wire.{wire_labels}
use Rattle.meaning.specs.Transfer.{pieces}
use Rattle.records.specs.Contents.{content_of}
use Rattle.records.proofs.Weighed.{one_wire}
use Rattle.records.proofs.data.Data.pieces_len.Goals as goal

pub returns-in-Alias : goal.returns-in-Alias
returns-in-Alias c =
    let e = ap (λ d. length (wire_labels (pieces (content_of d)))) c.in-Alias.is in
    let t = ap (λ n. length (written (labels n))) c.deref.ensures in
    let o = one_wire (written (labels c.in-Alias.name.value)) in
    let w = c.written_len.ensures.value in
    let b = c.written_len.ensures.bound in
    record { value = omega arith; bound = omega arith }
