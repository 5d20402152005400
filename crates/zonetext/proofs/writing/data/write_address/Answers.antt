use Rattle.std.proofs.Common.{vec_items}
use Rattle.records.specs.Contents.{bytes_of}
use Rattle.zonetext.specs.Written.{address_piece}
use Rattle.zonetext.proofs.Appending.{piece_given}
use Rattle.zonetext.proofs.writing.data.write_address.Goals as goal

pub returns-clause-written : goal.returns-clause-written
returns-clause-written c = piece_given (address_piece (bytes_of c.args.address.now)) (vec_items c.args.out.now) _ _ c.write_hex.result c.in_ok-push.ensures.items c.write_hex.ensures.written
