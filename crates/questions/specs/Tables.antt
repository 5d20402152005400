-- What a table of pending queries stands for.
use Rattle.std.specs.Prelude.{List, map}
use Rattle.machine.specs.Machine as machine
use Rattle.questions.specs.declared.table.PendingTable.{PendingTable}
use Rattle.questions.specs.Queries.{pending_of}

abbrev pub table_of : PendingTable → List machine.Pending
table_of t = map pending_of t.queries
