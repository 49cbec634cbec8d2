use Rattle.std.proofs.Common.{◌≡◌, map}
use Rattle.std.specs.List.{range_with_len}
use Rattle.xfs_empty.specs.Placing.{group_inodes}
use Rattle.xfs_empty.proofs.wanted.list_inodes.Given as goal

abbrev pub invariant-loop-ag : goal.invariant-loop-ag
invariant-loop-ag l = l.groups.items ≡ map group_inodes (range_with_len 0 l.ag)
