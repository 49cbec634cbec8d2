use Rattle.std.proofs.Common.{◌≡◌, take}
use Rattle.std.specs.List.{filter}
use Rattle.xfs_geom.specs.Sums.{has_free}
use Rattle.xfs_place.proofs.group_lists.with_free.Given as goal

abbrev pub invariant-loop-chunk : goal.invariant-loop-chunk
invariant-loop-chunk l = l.free.items ≡ filter has_free (take l.chunk-index l.inodes)
