use Rattle.std.proofs.Common.{◌≡◌, ◌++◌, map, drop}
use Rattle.xfs_geom.specs.Volumes.{volume_of}
use Rattle.xfs_inode.specs.Files.{range_of}
use Rattle.xfs_inode.proofs.claims.push_extents.Given as goal

abbrev pub invariant-loop-extent : goal.invariant-loop-extent
invariant-loop-extent l =
    l.runs.items ++ map (range_of (volume_of l.g)) (drop l.extent-index l.extents) ≡ l.fn.runs.items ++ map (range_of (volume_of l.g)) l.extents
