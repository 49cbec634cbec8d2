use Rattle.std.proofs.Common.{drop}
use Rattle.xfs_kinds.proofs.Joined.{swept}
use Rattle.xfs_kinds.proofs.Swept.{Left}
use Rattle.xfs_kinds.proofs.merging.merge_behind.Given as goal

abbrev pub invariant-loop-run : goal.invariant-loop-run
invariant-loop-run l = Left (swept l.first l.rest) l.joined.items l.last (drop l.run-index l.rest)
