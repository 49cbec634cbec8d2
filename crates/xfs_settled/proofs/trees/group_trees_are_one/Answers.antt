use Rattle.xfs_settled.proofs.TreeGroups.{group_trees_one}
use Rattle.xfs_settled.proofs.trees.group_trees_are_one.Goals as goal

pub returns : goal.returns
returns c = group_trees_one
