use Rattle.std.proofs.Common.{◌≡◌, false, take}
use Rattle.std.specs.List.{list_any}
use Rattle.xfs_dirindex.specs.Data.{is_dots}
use Rattle.xfs_dirindex.proofs.data.has_dots.Given as goal

abbrev pub invariant-loop-entry : goal.invariant-loop-entry
invariant-loop-entry l = list_any is_dots (take l.entry-index l.entries) ≡ false
