use Rattle.std.proofs.Common.{◌≡◌, ◌++◌}
use Rattle.xfs_tree.specs.Blocks.{each_of}
use Rattle.xfs_tree.proofs.Rest.{rest_of}
use Rattle.xfs_inode.specs.Forks.{fork_extent}
use Rattle.xfs_inode.proofs.held.list_extents.Given as goal

abbrev pub invariant-loop-i : goal.invariant-loop-i
invariant-loop-i l = record {
  pushed : l.extents ++ rest_of l.i l.count (fork_extent l.slot) ≡ each_of l.count (fork_extent l.slot);
}
