use Rattle.std.proofs.Common.{ap, ◌∙◌}
use Rattle.names.proofs.Laws.{labels_proper}
use Rattle.records.specs.Contents.{content_of}
use Rattle.wire.specs.Parts.{content_keeps}
use Rattle.wire.proofs.buffer.Buffer.data.Goals as goal

pub returns-in-Alias-clause-kept : goal.returns-in-Alias-clause-kept
returns-in-Alias-clause-kept c = ap (λ d. content_keeps (content_of d)) c.in-Alias.is ∙ labels_proper c.in-Alias.name.value
