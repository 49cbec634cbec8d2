use Rattle.std.proofs.Common.{◌≡◌, drop}
use Rattle.xfs_dirs.specs.Gathered.{parent_in}
use Rattle.xfs_dirs.proofs.entries.parent_in.Given as goal

abbrev pub invariant-loop-entry : goal.invariant-loop-entry
invariant-loop-entry l = parent_in (drop l.entry-index l.entries) ≡ parent_in l.entries
