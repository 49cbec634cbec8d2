use Rattle.std.proofs.Common.{◌≡◌, ◌++◌, ◌+◌, ◌<◌, ◌^◌, map, drop}
use Rattle.std.specs.List.{sum}
use Rattle.xfs_place.specs.Placing.{cut, tree_blocks_at}
use Rattle.xfs_place.proofs.group_placing.cut_trees.Given as goal

abbrev pub invariant-loop-size : goal.invariant-loop-size
invariant-loop-size l = record {
  cut' : l.trees.items ++ map (tree_blocks_at l.base) (cut (drop l.size-index l.sizes) (drop l.from l.blocks)) ≡ map (tree_blocks_at l.base) (cut l.sizes l.blocks);
  small : l.from + sum (drop l.size-index l.sizes) < 2 ^ 40;
}
