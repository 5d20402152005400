-- What a reader of packets has still to read.
use Rattle.std.specs.Prelude.{ℕ, List}
use Rattle.names.specs.declared.name.wire.Reader.{Reader}

abbrev pub unread : Reader → List ℕ
unread r = r.rest.now
