use Rattle.std.proofs.Common.{◌≡◌, ◌<◌, ◌^◌, ◌++◌, drop}
use Rattle.std.specs.List.{All, flat_map}
use Rattle.xfs_image.specs.Slots.{cluster_blocks}
use Rattle.xfs_slots.proofs.blocks.blocks_of.Given as goal

abbrev pub invariant-loop-cluster : goal.invariant-loop-cluster
invariant-loop-cluster l = record {
  blocks : l.blocks.items ++ flat_map cluster_blocks (drop l.cluster-index l.clusters) ≡ flat_map cluster_blocks l.clusters;
  low : All (λ block. block < 2 ^ 43) l.blocks.items;
}
