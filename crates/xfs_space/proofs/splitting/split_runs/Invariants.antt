use Rattle.std.proofs.Common.{◌<◌, take}
use Rattle.std.specs.List.{All}
use Rattle.xfs_geom.specs.declared.records.Run.{Run}
use Rattle.xfs_space.proofs.splitting.split_runs.Given as goal

abbrev pub invariant-loop-index : goal.invariant-loop-index
invariant-loop-index l = All (λ (r : Run). r.start < l.block) (take l.index l.runs)
