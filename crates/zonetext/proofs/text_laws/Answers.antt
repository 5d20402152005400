use Rattle.zonetext.proofs.Reread.{read_again}
use Rattle.zonetext.proofs.Holding.{read_held}
use Rattle.zonetext.proofs.Pieced.{line_fields}
use Rattle.zonetext.proofs.Whole.{read_written, written_read}
use Rattle.zonetext.proofs.text_laws.Goals as goal

pub returns : goal.returns
returns c = record { line = line_fields; read_written = read_written; written_read = written_read; read_held = read_held; read_again = read_again }
