use Rattle.std.proofs.Common.{◌≡◌, ◌≤◌, ◌*◌, take}
use Rattle.xfs_dirdata.specs.Written.{short_length}
use Rattle.xfs_dirbuild.proofs.forms.short_length.Given as goal

abbrev pub invariant-loop-entry : goal.invariant-loop-entry
invariant-loop-entry l = record {
  total : l.total ≡ short_length (take l.entry-index l.entries);
  bound : l.total ≤ 263 * l.entry-index;
}
