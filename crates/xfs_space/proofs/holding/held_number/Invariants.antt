use Rattle.std.proofs.Common.{◌≡◌, drop}
use Rattle.xfs_kinds.specs.MergedRuns.{held_at}
use Rattle.xfs_space.proofs.holding.held_number.Given as goal

abbrev pub invariant-loop-run : goal.invariant-loop-run
invariant-loop-run l = held_at (drop l.run-index l.runs) l.block ≡ held_at l.runs l.block
