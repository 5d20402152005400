use Rattle.std.proofs.Common.{◌≡◌, ◌≤◌}
use Rattle.names.specs.Names.{labels}
use Rattle.valley.specs.Owning.{published_by}
use Rattle.valley.specs.Having.{had, had_in, kept_by, IsNearest}
use Rattle.valley.proofs.servers.Servers.nearest.Given as goal

abbrev pub invariant-loop-lower : goal.invariant-loop-lower
invariant-loop-lower l = record {
  nearest : IsNearest (had l.now.0 (published_by l.owners) (kept_by l.self) (labels l.apex)) l.lower (had_in l.nearest);
  begun : l.server ≡ 0 → l.lower ≤ 1;
}
