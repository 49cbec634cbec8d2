use Rattle.std.proofs.Common.{◌≡◌, ◌≤◌, take}
use Rattle.xfs_dirdata.specs.Written.{data_length}
use Rattle.xfs_dirdata.proofs.data_writing.count_fitting.Given as goal

abbrev pub invariant-loop-index : goal.invariant-loop-index
invariant-loop-index l = record {
  used : l.used ≡ data_length (take l.index l.entries);
  fits : l.used ≤ l.room;
}
