-- What a part that is sent stands for.
use Rattle.std.specs.Prelude.{map}
use Rattle.records.specs.Sets.{set_of}
use Rattle.wire.specs.Heads.{head_of}
use Rattle.wire.specs.Parts as parts
use Rattle.transfers.specs.declared.splitting.Part.{Part}

abbrev pub part_of : Part → parts.Part
part_of p = record { head = head_of p.head; sets = map set_of p.sets.now }
