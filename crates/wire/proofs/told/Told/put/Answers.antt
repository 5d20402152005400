use Rattle.std.proofs.Common.{map, sym, ap, ◌∙◌}
use Rattle.std.proofs.lemmas.Bool.{and_from}
use Rattle.names.proofs.Laws.{labels_proper}
use Rattle.records.specs.Contents.{bytes_of}
use Rattle.wire.specs.Packets.{told_sound}
use Rattle.wire.specs.Parts.{are_addresses}
use Rattle.wire.specs.Tellings.{told_of}
use Rattle.wire.proofs.told.Told.put.Goals as goal

pub returns-in-Alias-clause-kept : goal.returns-in-Alias-clause-kept
returns-in-Alias-clause-kept c = ap (λ t. told_sound (told_of t)) c.in-Alias.is ∙ labels_proper c.in-Alias.name

pub returns-in-Referral-clause-kept : goal.returns-in-Referral-clause-kept
returns-in-Referral-clause-kept c =
    ap (λ t. told_sound (told_of t)) c.in-Referral.is
    ∙ and_from _ _ (labels_proper c.in-Referral.referral.name) (ap (λ xs. are_addresses (map bytes_of xs)) (sym c.as_slice-in-Referral.ensures.value) ∙ c.addresses.ensures.kept)
