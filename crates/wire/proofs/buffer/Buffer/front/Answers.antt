use Rattle.names.proofs.Laws.{labels_proper}
use Rattle.names.specs.Names.{labels}
use Rattle.wire.specs.Whats.{number_of}
use Rattle.wire.proofs.Front.{front_short}
use Rattle.wire.proofs.buffer.Buffer.front.Goals as goal

pub returns-clause-short : goal.returns-clause-short
returns-clause-short c = front_short c.args.id.0 (labels c.args.apex.now) (number_of c.args.what) c.args.ttl.0 (labels_proper c.args.apex.now)
