use Rattle.std.proofs.Common.{◌≡◌, ◌++◌, drop}
use Rattle.xfs_dirindex.specs.Mapped.{mapped}
use Rattle.xfs_dirindex.specs.IndexTree.{are_members, pairs_below}
use Rattle.xfs_dirindex.proofs.index_tree.read_level.Given as goal

abbrev pub invariant-loop-i : goal.invariant-loop-i
invariant-loop-i l = record {
  sound : are_members (mapped l.dir.offsets.items l.dir.blocks) l.root l.level 0 l.links
      ≡ are_members (mapped l.dir.offsets.items l.dir.blocks) l.root l.level l.before (drop l.i l.links);
  pairs : l.below.items ++ pairs_below (mapped l.dir.offsets.items l.dir.blocks) (drop l.i l.links)
      ≡ pairs_below (mapped l.dir.offsets.items l.dir.blocks) l.links;
}
