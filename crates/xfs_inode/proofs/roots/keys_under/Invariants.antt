use Rattle.std.proofs.Common.{◌≡◌, ◌++◌}
use Rattle.xfs_tree.specs.Blocks.{each_of}
use Rattle.xfs_tree.proofs.Rest.{rest_of}
use Rattle.xfs_inode.specs.Forks.{root_count, root_key}
use Rattle.xfs_inode.proofs.roots.keys_under.Given as goal

abbrev pub invariant-loop-i : goal.invariant-loop-i
invariant-loop-i l = l.keys.items ++ rest_of l.i (root_count l.slot) (root_key l.slot) ≡ each_of (root_count l.slot) (root_key l.slot)
