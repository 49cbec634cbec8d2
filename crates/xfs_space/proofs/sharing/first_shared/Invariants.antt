use Rattle.std.proofs.Common.{◌≡◌, drop}
use Rattle.xfs_space.proofs.Shared.{overlap}
use Rattle.xfs_space.proofs.sharing.first_shared.Given as goal

abbrev pub invariant-loop-run : goal.invariant-loop-run
invariant-loop-run l = overlap l.end (drop l.run-index l.runs) ≡ overlap 0 l.runs
