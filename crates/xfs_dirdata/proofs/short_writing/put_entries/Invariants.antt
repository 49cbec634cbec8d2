use Rattle.std.proofs.Common.{◌≡◌, ◌+◌, take}
use Rattle.xfs_word.specs.Field.{SameBeside}
use Rattle.xfs_dirdata.specs.Written.{short_length, data_length, AreShortEntries}
use Rattle.xfs_dirdata.proofs.short_writing.put_entries.Given as goal

abbrev pub invariant-loop-entry : goal.invariant-loop-entry
invariant-loop-entry l = record {
  at : l.at ≡ 6 + short_length (take l.entry-index l.entries);
  offset : l.offset ≡ 96 + data_length (take l.entry-index l.entries);
  stand : AreShortEntries l.form 6 96 (take l.entry-index l.entries);
  others : SameBeside l.initial.form l.form 6 (short_length (take l.entry-index l.entries));
}
