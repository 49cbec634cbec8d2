use Rattle.std.proofs.Common.{◌≡◌, ◌++◌, drop}
use Rattle.std.specs.List.{flat_map}
use Rattle.xfs_geom.specs.Volumes.{volume_of}
use Rattle.xfs_changes.specs.Forks.{run_bytes}
use Rattle.xfs_changes.proofs.forks.extents_of.Given as goal

abbrev pub invariant-loop-run : goal.invariant-loop-run
invariant-loop-run l =
    l.bytes.items ++ flat_map (run_bytes (volume_of l.g)) (drop l.run-index l.runs) ≡ flat_map (run_bytes (volume_of l.g)) l.runs
