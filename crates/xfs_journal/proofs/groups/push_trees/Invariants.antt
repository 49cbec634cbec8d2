use Rattle.std.proofs.Common.{◌≡◌, ◌++◌, drop, map}
use Rattle.std.specs.List.{All, flat_map}
use Rattle.xfs_image.specs.Lsns.{at}
use Rattle.xfs_volume.specs.declared.groups.TreeBlocks.{TreeBlocks}
use Rattle.xfs_journal.specs.Placed.{IsInBlock, listed}
use Rattle.xfs_journal.proofs.groups.push_trees.Given as goal

abbrev pub invariant-loop-tree : goal.invariant-loop-tree
invariant-loop-tree l = record {
  listed : listed l.places.items ++ flat_map (λ (t : TreeBlocks). map (at 24) t.blocks) (drop l.tree-index l.group.blocks) ≡ listed l.fn.places.items ++ flat_map (λ (t : TreeBlocks). map (at 24) t.blocks) l.group.blocks;
  inside : All IsInBlock l.places.items;
}
