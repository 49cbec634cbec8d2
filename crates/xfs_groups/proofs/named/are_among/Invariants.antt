use Rattle.std.proofs.Common.{◌≡◌, true, take}
use Rattle.std.specs.List.{list_all}
use Rattle.xfs_disk.specs.Lists.{is_among}
use Rattle.xfs_groups.proofs.named.are_among.Given as goal

abbrev pub invariant-loop-cluster : goal.invariant-loop-cluster
invariant-loop-cluster l = list_all (is_among l.ys) (take l.cluster-index l.xs) ≡ true
