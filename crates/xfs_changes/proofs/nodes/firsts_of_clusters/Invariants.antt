use Rattle.std.proofs.Common.{◌≡◌, ◌<◌, ◌^◌, ◌++◌, drop}
use Rattle.std.specs.List.{All}
use Rattle.xfs_geom.specs.Volumes.{volume_of}
use Rattle.xfs_changes.specs.Nodes.{firsts_of_clusters}
use Rattle.xfs_changes.proofs.nodes.firsts_of_clusters.Given as goal

abbrev pub invariant-loop-cluster : goal.invariant-loop-cluster
invariant-loop-cluster l = record {
  first : l.inodes.items ++ firsts_of_clusters (volume_of l.g) (drop l.cluster-index l.clusters) ≡ firsts_of_clusters (volume_of l.g) l.clusters;
  low : All (λ first. first < 2 ^ 32) l.inodes.items;
}
