use Rattle.std.proofs.Common.{ℕ, ◌<◌, get_or}
use Rattle.xfs_geom.specs.Volumes.{volume_of}
use Rattle.xfs_space.specs.Parts.{AreOfGroup}
use Rattle.xfs_volume.specs.declared.groups.TreeBlocks.{TreeBlocks}
use Rattle.xfs_laws.proofs.parts.are_trees.Given as goal

abbrev pub invariant-loop-tree : goal.invariant-loop-tree
invariant-loop-tree l = (k : ℕ) (d : TreeBlocks) → k < l.tree-index → AreOfGroup (volume_of l.g) l.ag (get_or l.trees k d).blocks
