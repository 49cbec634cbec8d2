use Rattle.std.proofs.Common.{◌≡◌, ◌+◌, take}
use Rattle.xfs_word.specs.Field.{SameBeside}
use Rattle.xfs_dirdata.specs.Written.{data_length, AreDataEntries}
use Rattle.xfs_dirdata.proofs.data_writing.put_entries.Given as goal

abbrev pub invariant-loop-entry : goal.invariant-loop-entry
invariant-loop-entry l = record {
  at : l.at ≡ l.start + data_length (take l.entry-index l.entries);
  stand : AreDataEntries l.block l.start (take l.entry-index l.entries);
  others : SameBeside l.initial.block l.block l.start (data_length (take l.entry-index l.entries));
}
