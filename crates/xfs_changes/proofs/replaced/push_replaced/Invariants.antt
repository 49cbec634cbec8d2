use Rattle.std.proofs.Common.{◌≡◌, ◌++◌, drop}
use Rattle.std.specs.List.{flat_map}
use Rattle.xfs_geom.specs.Volumes.{volume_of}
use Rattle.xfs_changes.specs.Replaced.{blocks_replaced}
use Rattle.xfs_changes.proofs.replaced.push_replaced.Given as goal

abbrev pub invariant-loop-file : goal.invariant-loop-file
invariant-loop-file l = l.blocks.items ++ flat_map (blocks_replaced (volume_of l.g) l.rebuilt) (drop l.file-index l.files) ≡ l.fn.blocks.items ++ flat_map (blocks_replaced (volume_of l.g) l.rebuilt) l.files
