use Rattle.std.proofs.Common.{◌≡◌, ◌++◌}
use Rattle.xfs_dirindex.specs.Mapped.{mapped}
use Rattle.xfs_dirindex.specs.IndexTree.{are_levels, index_tree_places, leaf_pairs, keeps_rules, index_tree_all_places, all_leaf_pairs}
use Rattle.xfs_dirindex.proofs.index_tree.read_index_tree.Given as goal

abbrev pub invariant-loop-level : goal.invariant-loop-level
invariant-loop-level l = record {
  sound : keeps_rules (mapped l.dir.offsets.items l.dir.blocks) ≡ are_levels (mapped l.dir.offsets.items l.dir.blocks) l.root l.level l.links.items;
  places : l.places.items ++ index_tree_places (mapped l.dir.offsets.items l.dir.blocks) l.level l.links.items ≡ index_tree_all_places (mapped l.dir.offsets.items l.dir.blocks);
  pairs : leaf_pairs (mapped l.dir.offsets.items l.dir.blocks) l.level l.links.items ≡ all_leaf_pairs (mapped l.dir.offsets.items l.dir.blocks);
}

abbrev pub decreases-loop-level : goal.decreases-loop-level
decreases-loop-level l = l.level
