use Rattle.protocol.proofs.History.{one_version}
use Rattle.protocol.proofs.serials_name_versions.Goals as goal

pub returns : goal.returns
returns c = one_version
