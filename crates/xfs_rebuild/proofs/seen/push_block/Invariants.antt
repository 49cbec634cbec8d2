use Rattle.std.proofs.Common.{◌≡◌, ◌++◌, ◌-◌, map}
use Rattle.std.specs.List.{range_with_len}
use Rattle.xfs_geom.specs.Conversions.{inode_of}
use Rattle.xfs_geom.specs.Volumes.{volume_of}
use Rattle.xfs_rebuild.proofs.seen.push_block.Given as goal

abbrev pub invariant-loop-slot : goal.invariant-loop-slot
invariant-loop-slot l =
    l.inodes.items ++ map (inode_of (volume_of l.g) l.block) (range_with_len l.slot (8 - l.slot))
    ≡ l.fn.inodes.items ++ map (inode_of (volume_of l.g) l.block) (range_with_len 0 8)
