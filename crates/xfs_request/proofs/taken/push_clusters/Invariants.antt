use Rattle.std.proofs.Common.{◌≡◌, ◌++◌, drop, map}
use Rattle.xfs_salvage.specs.Kept.{run_of_cluster}
use Rattle.xfs_request.proofs.taken.push_clusters.Given as goal

abbrev pub invariant-loop-block : goal.invariant-loop-block
invariant-loop-block l = l.runs.items ++ map run_of_cluster (drop l.block-index l.clusters) ≡ l.fn.runs.items ++ map run_of_cluster l.clusters
