use Rattle.std.proofs.Common.{◌≡◌, ℕ, ◌-◌, nat_lt}
use Rattle.xfs_inode.specs.Forks.{keys_ascend, root_count, root_key}
use Rattle.xfs_inode.proofs.Tested.{numbers_from}
use Rattle.xfs_inode.proofs.roots.keys_ascend.Given as goal

abbrev pub invariant-loop-i : goal.invariant-loop-i
invariant-loop-i l = numbers_from (λ (i : ℕ). nat_lt (root_key l.slot (i - 1)) (root_key l.slot i)) l.i (root_count l.slot) ≡ keys_ascend l.slot
