use Rattle.std.proofs.Common.{◌≡◌, true}
use Rattle.std.specs.List.{list_all}
use Rattle.xfs_attr.specs.Leaf.{entries, is_local}
use Rattle.xfs_attr.proofs.leaf.are_local.Given as goal

abbrev pub invariant-loop-index : goal.invariant-loop-index
invariant-loop-index l = list_all is_local (entries l.block l.index) ≡ true
