use Rattle.std.proofs.Common.{◌≡◌, ◌++◌, drop}
use Rattle.std.specs.List.{flat_map}
use Rattle.xfs_geom.specs.Volumes.{volume_of}
use Rattle.xfs_image.specs.Slots.{cluster_inodes}
use Rattle.xfs_volume.specs.declared.clusters.ClusterRec.{ClusterRec}
use Rattle.xfs_rebuild.proofs.seen.inodes_of_clusters.Given as goal

abbrev pub invariant-loop-cluster : goal.invariant-loop-cluster
invariant-loop-cluster l =
    l.inodes.items ++ flat_map (λ (c : ClusterRec). cluster_inodes (volume_of l.g) c.block) (drop l.cluster-index l.clusters)
    ≡ flat_map (λ (c : ClusterRec). cluster_inodes (volume_of l.g) c.block) l.clusters
