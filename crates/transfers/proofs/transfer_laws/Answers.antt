use Rattle.transfers.proofs.Rejoining.{rejoins}
use Rattle.transfers.proofs.Brought.{one_version, first_version, said, kept, brought, first_said}
use Rattle.transfers.proofs.transfer_laws.Goals as goal

pub returns : goal.returns
returns c = record {
  rejoined = rejoins c.split_laws.ensures;
  one_version = one_version;
  first_version = first_version;
  said = said;
  kept = kept;
  brought = brought;
  first_said = first_said;
}
