use Rattle.std.proofs.Common.{◌≡◌, ◌++◌}
use Rattle.xfs_geom.specs.Volumes.{volume_of}
use Rattle.xfs_tree.specs.Blocks.{each_of}
use Rattle.xfs_tree.proofs.Rest.{rest_of}
use Rattle.xfs_inode.specs.Forks.{place_under, root_count}
use Rattle.xfs_inode.proofs.roots.places_under.Given as goal

abbrev pub invariant-loop-i : goal.invariant-loop-i
invariant-loop-i l = l.places.items ++ rest_of l.i (root_count l.slot) (place_under (volume_of l.g) l.capacity l.slot) ≡ each_of (root_count l.slot) (place_under (volume_of l.g) l.capacity l.slot)
