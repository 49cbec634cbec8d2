use Rattle.std.proofs.Common.{◌≡◌, ◌++◌, drop, filter, map, false}
use Rattle.std.specs.List.{list_all, flat_map}
use Rattle.xfs_dirindex.specs.Mapped.{mapped, is_data}
use Rattle.xfs_dirindex.specs.Data.{is_later, are_data, pairs_in, all_pairs, best_in, all_bests}
use Rattle.xfs_dirindex.proofs.data.read_blocks.Given as goal

abbrev pub invariant-loop-i : goal.invariant-loop-i
invariant-loop-i l = record {
  sound : are_data l.dir.dir (mapped l.dir.offsets.items l.dir.blocks) ≡ list_all (is_later l.dir.dir) (drop l.i (mapped l.dir.offsets.items l.dir.blocks));
  due : l.taken.due.items ++ flat_map (pairs_in l.dir.dir false) (filter is_data (drop l.i (mapped l.dir.offsets.items l.dir.blocks)))
      ≡ all_pairs l.dir.dir (mapped l.dir.offsets.items l.dir.blocks);
  bests : l.taken.bests.items ++ map (best_in l.dir.dir false) (filter is_data (drop l.i (mapped l.dir.offsets.items l.dir.blocks)))
      ≡ all_bests l.dir.dir (mapped l.dir.offsets.items l.dir.blocks);
}
