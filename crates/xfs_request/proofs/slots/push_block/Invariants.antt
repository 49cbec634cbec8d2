use Rattle.std.proofs.Common.{◌≡◌, ◌++◌, ◌-◌, map}
use Rattle.std.specs.List.{flat_map, range_with_len}
use Rattle.xfs_geom.specs.Conversions.{inode_of}
use Rattle.xfs_geom.specs.Volumes.{volume_of}
use Rattle.xfs_request.specs.Slots.{slot_listed}
use Rattle.xfs_request.proofs.slots.push_block.Given as goal

abbrev pub invariant-loop-slot : goal.invariant-loop-slot
invariant-loop-slot l =
    l.slots.items ++ flat_map (slot_listed (volume_of l.basis.g.now) l.basis.stamp.now l.basis.kept.now l.basis.slots.now) (map (inode_of (volume_of l.basis.g.now) l.block) (range_with_len l.slot (8 - l.slot)))
    ≡ l.fn.slots.items ++ flat_map (slot_listed (volume_of l.basis.g.now) l.basis.stamp.now l.basis.kept.now l.basis.slots.now) (map (inode_of (volume_of l.basis.g.now) l.block) (range_with_len 0 8))
