use Rattle.std.proofs.Common.{◌≡◌, ◌<◌, ◌++◌, drop}
use Rattle.std.specs.List.{All, flat_map}
use Rattle.xfs_volume.specs.declared.clusters.ClusterRec.{ClusterRec}
use Rattle.xfs_image.specs.Slots.{cluster_blocks}
use Rattle.xfs_slots.proofs.blocks.blocks_of_candidates.Given as goal

abbrev pub invariant-loop-cluster : goal.invariant-loop-cluster
invariant-loop-cluster l = record {
  blocks : l.blocks.items ++ flat_map (λ (c : ClusterRec). cluster_blocks c.block) (drop l.cluster-index l.clusters) ≡ flat_map (λ (c : ClusterRec). cluster_blocks c.block) l.clusters;
  low : All (λ block. block < l.end) l.blocks.items;
}
