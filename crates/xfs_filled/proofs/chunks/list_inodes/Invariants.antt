use Rattle.std.proofs.Common.{◌≡◌, map}
use Rattle.std.specs.List.{range_with_len}
use Rattle.xfs_geom.specs.Volumes.{volume_of}
use Rattle.xfs_filled.specs.Chunks.{inodes_of_group}
use Rattle.xfs_filled.proofs.chunks.list_inodes.Given as goal

abbrev pub invariant-loop-ag : goal.invariant-loop-ag
invariant-loop-ag l = l.groups.items ≡ map (inodes_of_group (volume_of l.g) l.files l.starts) (range_with_len 0 l.ag)
