use Rattle.xfs_settled.proofs.TreeGroups.{tree_blocks_one}
use Rattle.xfs_settled.proofs.trees.tree_blocks_are_one.Goals as goal

pub returns : goal.returns
returns c = tree_blocks_one
