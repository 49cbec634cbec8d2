use Rattle.std.proofs.Common.{◌≡◌, ◌++◌, drop}
use Rattle.std.specs.List.{flat_map}
use Rattle.xfs_geom.specs.Volumes.{volume_of}
use Rattle.xfs_changes.specs.Replaced.{numbers_of_extent}
use Rattle.xfs_changes.proofs.replaced.push_extents.Given as goal

abbrev pub invariant-loop-extent : goal.invariant-loop-extent
invariant-loop-extent l = l.blocks.items ++ flat_map (numbers_of_extent (volume_of l.g)) (drop l.extent-index l.extents) ≡ l.fn.blocks.items ++ flat_map (numbers_of_extent (volume_of l.g)) l.extents
