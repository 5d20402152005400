-- What queries stand for.
use Rattle.names.specs.Names.{labels}
use Rattle.protocol.specs.World as world
use Rattle.machine.specs.Machine as machine
use Rattle.questions.specs.declared.query.Query.{Query}
use Rattle.questions.specs.declared.query.Pending.{Pending}

abbrev pub query_of : Query → world.Query
query_of q = record { id = q.id.0; server = q.server.0; apex = labels q.key.apex; name = labels q.key.name; kind = q.key.kind.number; asked = q.asked.0 }

abbrev pub pending_of : Pending → machine.Pending
pending_of p = record { query = query_of p.query; place = p.place }
