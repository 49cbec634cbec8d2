use Rattle.std.proofs.Common.{◌≡◌, ◌++◌, drop}
use Rattle.xfs_dirindex.specs.Data.{due_pairs}
use Rattle.xfs_dirindex.proofs.data.take_pairs.Given as goal

abbrev pub invariant-loop-i : goal.invariant-loop-i
invariant-loop-i l = l.due.items ++ due_pairs l.offset (drop l.i l.entries) (drop l.i l.places) ≡ l.fn.due.items ++ due_pairs l.offset l.entries l.places
