use Rattle.std.proofs.Common.{◌≡◌, ◌++◌, ◌+◌, drop, take, length}
use Rattle.std.specs.List.{All}
use Rattle.xfs_dirdata.specs.Written.{data_length, offsets}
use Rattle.xfs_dirindex.specs.Data.{due_pairs}
use Rattle.xfs_dirbuild.specs.Index.{IsPointer}
use Rattle.xfs_dirbuild.proofs.filling.add_pairs.Given as goal

abbrev pub invariant-loop-entry : goal.invariant-loop-entry
invariant-loop-entry l = record {
  at : l.at ≡ l.start + data_length (take l.entry-index l.entries);
  pairs : l.pairs.items ++ due_pairs l.number (drop l.entry-index l.entries) (offsets l.at (drop l.entry-index l.entries))
      ≡ l.fn.pairs.items ++ due_pairs l.number l.entries (offsets l.start l.entries);
  count : length l.pairs.items ≡ length l.fn.pairs.items + l.entry-index;
  sound : All IsPointer l.pairs.items;
}
