use Rattle.std.proofs.Common.{◌≡◌, ◌++◌, ◌+◌, ◌-◌}
use Rattle.std.specs.List.{flat_map, range_with_len}
use Rattle.xfs_geom.specs.Volumes.{volume_of}
use Rattle.xfs_image.specs.Slots.{inodes_of_block}
use Rattle.xfs_rebuild.proofs.seen.push_cluster.Given as goal

abbrev pub invariant-loop-block : goal.invariant-loop-block
invariant-loop-block l =
    l.inodes.items ++ flat_map (inodes_of_block (volume_of l.g)) (range_with_len l.block (l.cluster + 4 - l.block))
    ≡ l.fn.inodes.items ++ flat_map (inodes_of_block (volume_of l.g)) (range_with_len l.cluster 4)
