use Rattle.std.proofs.Common.{◌≡◌, ℕ}
use Rattle.xfs_geom.specs.Conversions.{block_at}
use Rattle.xfs_geom.specs.Volumes.{volume_of}
use Rattle.xfs_inode.specs.Forks.{are_addresses, names_block, root_count, root_pointer}
use Rattle.xfs_inode.proofs.Tested.{numbers_from}
use Rattle.xfs_inode.proofs.roots.are_addresses.Given as goal

abbrev pub invariant-loop-i : goal.invariant-loop-i
invariant-loop-i l =
    numbers_from (λ (i : ℕ). names_block (block_at (volume_of l.g) (root_pointer l.capacity l.slot i))) l.i (root_count l.slot) ≡ are_addresses (volume_of l.g) l.capacity l.slot
