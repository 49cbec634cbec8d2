use Rattle.std.proofs.Common.{◌≡◌, ◌++◌, ◌+◌, ◌-◌}
use Rattle.std.specs.List.{flat_map, range_with_len}
use Rattle.xfs_geom.specs.Volumes.{volume_of}
use Rattle.xfs_request.specs.Slots.{block_slots}
use Rattle.xfs_request.proofs.slots.push_cluster.Given as goal

abbrev pub invariant-loop-block : goal.invariant-loop-block
invariant-loop-block l =
    l.slots.items ++ flat_map (block_slots (volume_of l.basis.g.now) l.basis.stamp.now l.basis.kept.now l.basis.slots.now) (range_with_len l.block (l.cluster + 4 - l.block))
    ≡ l.fn.slots.items ++ flat_map (block_slots (volume_of l.basis.g.now) l.basis.stamp.now l.basis.kept.now l.basis.slots.now) (range_with_len l.cluster 4)
