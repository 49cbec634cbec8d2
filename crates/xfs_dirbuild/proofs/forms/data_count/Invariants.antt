use Rattle.std.proofs.Common.{◌≡◌, ◌≤◌, ◌+◌, drop, length}
use Rattle.xfs_dirbuild.specs.Filling.{filled}
use Rattle.xfs_dirbuild.proofs.forms.data_count.Given as goal

abbrev pub invariant-loop-entry : goal.invariant-loop-entry
invariant-loop-entry l = record {
  counted : l.count + length (filled l.used (drop l.entry-index l.entries)) ≡ length (filled 96 l.entries) + 1;
  some : 1 ≤ l.count;
  bound : l.count ≤ l.entry-index + 1;
  used : l.used ≤ 4096;
}
