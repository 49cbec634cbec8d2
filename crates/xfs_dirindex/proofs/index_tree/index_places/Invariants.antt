use Rattle.std.proofs.Common.{◌≡◌, ◌++◌, drop, map, filter}
use Rattle.xfs_dirindex.specs.Mapped.{Mapped, mapped, is_index_block}
use Rattle.xfs_dirindex.specs.IndexTree.{pair_of_place, index_places}
use Rattle.xfs_dirindex.proofs.index_tree.index_places.Given as goal

abbrev pub invariant-loop-i : goal.invariant-loop-i
invariant-loop-i l =
    l.places.items ++ map (λ (m : Mapped). pair_of_place m.offset) (filter is_index_block (drop l.i (mapped l.dir.offsets.items l.dir.blocks)))
    ≡ index_places (mapped l.dir.offsets.items l.dir.blocks)
