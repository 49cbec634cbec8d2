use Rattle.std.proofs.Common.{◌≡◌, ◌++◌, map, drop}
use Rattle.xfs_salvage.specs.Kept.{run_of_cluster}
use Rattle.xfs_rename.proofs.wanting.cluster_runs.Given as goal

abbrev pub invariant-loop-cluster : goal.invariant-loop-cluster
invariant-loop-cluster l = l.runs.items ++ map run_of_cluster (drop l.cluster-index l.clusters) ≡ map run_of_cluster l.clusters
