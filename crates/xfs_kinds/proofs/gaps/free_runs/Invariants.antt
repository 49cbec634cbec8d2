use Rattle.std.proofs.Common.{◌≡◌, ◌++◌, drop}
use Rattle.xfs_kinds.proofs.Sweep.{sweep}
use Rattle.xfs_kinds.proofs.gaps.free_runs.Given as goal

abbrev pub invariant-loop-span : goal.invariant-loop-span
invariant-loop-span l = l.free.items ++ sweep l.at l.length (drop l.span-index l.used) ≡ sweep 0 l.length l.used
