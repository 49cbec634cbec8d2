use Rattle.std.proofs.Common.{◌≡◌, drop}
use Rattle.xfs_names.specs.Rebuilt.{are_right_entries}
use Rattle.xfs_names.proofs.comparing.are_right_entries.Given as goal

abbrev pub invariant-loop-k : goal.invariant-loop-k
invariant-loop-k l = are_right_entries (drop l.k l.held) (drop l.k l.due) ≡ are_right_entries l.held l.due
