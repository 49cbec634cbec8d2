use Rattle.std.proofs.Common.{◌≡◌, ◌∷◌, map}
use Rattle.std.specs.List.{range_with_len}
use Rattle.xfs_geom.specs.Volumes.{volume_of}
use Rattle.xfs_kinds.specs.FixedRuns.{header_run, log_run}
use Rattle.xfs_salvage.proofs.claiming.fixed_runs.Given as goal

abbrev pub invariant-loop-ag : goal.invariant-loop-ag
invariant-loop-ag l = l.runs.items ≡ log_run (volume_of l.g) ∷ map (header_run (volume_of l.g)) (range_with_len 0 l.ag)
