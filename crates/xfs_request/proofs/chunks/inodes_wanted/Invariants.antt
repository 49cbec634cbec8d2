use Rattle.std.proofs.Common.{◌≡◌, map}
use Rattle.std.specs.List.{range_with_len}
use Rattle.xfs_geom.specs.Volumes.{volume_of}
use Rattle.xfs_request.specs.Chunks.{group_asked}
use Rattle.xfs_request.proofs.chunks.inodes_wanted.Given as goal

abbrev pub invariant-loop-ag : goal.invariant-loop-ag
invariant-loop-ag l = l.groups.items ≡ map (group_asked (volume_of l.g) l.kept) (range_with_len 0 l.ag)
