use Rattle.xfs_render.proofs.Sums.{inode_trees}
use Rattle.xfs_render.proofs.heads.due_agi.Goals as goal

pub root_in-requires-clause-some : goal.root_in-requires-clause-some
root_in-requires-clause-some c = (inode_trees _ _ _ _ c.requires.sound).0

pub root_in-requires-2-clause-some : goal.root_in-requires-2-clause-some
root_in-requires-2-clause-some c = (inode_trees _ _ _ _ c.requires.sound).1
