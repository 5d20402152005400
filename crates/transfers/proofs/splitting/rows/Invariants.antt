use Rattle.std.proofs.Common.{map, vec_items}
use Rattle.records.specs.Sets.{set_of}
use Rattle.transfers.proofs.Cutting.{Going}
use Rattle.transfers.proofs.splitting.rows.Given as goal

abbrev pub invariant-loop-at : goal.invariant-loop-at
invariant-loop-at l = Going set_of l.sets (map (λ r. map set_of r.now) (vec_items l.rows)) l.start l.at l.len
