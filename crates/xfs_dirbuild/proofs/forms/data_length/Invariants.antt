use Rattle.std.proofs.Common.{◌≡◌, ◌≤◌, ◌*◌, take}
use Rattle.xfs_dirdata.specs.Written.{data_length}
use Rattle.xfs_dirbuild.proofs.forms.data_length.Given as goal

abbrev pub invariant-loop-entry : goal.invariant-loop-entry
invariant-loop-entry l = record {
  total : l.total ≡ data_length (take l.entry-index l.entries);
  bound : l.total ≤ 274 * l.entry-index;
}
