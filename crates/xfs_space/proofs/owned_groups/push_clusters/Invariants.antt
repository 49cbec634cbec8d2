use Rattle.std.proofs.Common.{◌≡◌, ◌++◌, drop}
use Rattle.xfs_space.specs.Owners.{cluster_runs}
use Rattle.xfs_space.proofs.owned_groups.push_clusters.Given as goal

abbrev pub invariant-loop-chunk : goal.invariant-loop-chunk
invariant-loop-chunk l = l.runs.items ++ cluster_runs l.base (drop l.chunk-index l.chunks) ≡ l.fn.runs.items ++ cluster_runs l.base l.chunks
