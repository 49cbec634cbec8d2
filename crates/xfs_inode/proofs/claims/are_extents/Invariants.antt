use Rattle.std.proofs.Common.{◌≡◌, drop, None}
use Rattle.xfs_geom.specs.Volumes.{volume_of}
use Rattle.xfs_inode.specs.Files.{are_extents}
use Rattle.xfs_inode.proofs.claims.are_extents.Given as goal

abbrev pub invariant-loop-extent : goal.invariant-loop-extent
invariant-loop-extent l =
    are_extents (volume_of l.g) l.before (drop l.extent-index l.extents) ≡ are_extents (volume_of l.g) None l.extents
