use Rattle.std.proofs.Common.{◌≡◌, drop}
use Rattle.xfs_inode.specs.Private.Claims.{in_turn}
use Rattle.xfs_inode.proofs.claims.in_turn.Given as goal

abbrev pub invariant-loop-run : goal.invariant-loop-run
invariant-loop-run l = in_turn l.end (drop l.run-index l.runs) ≡ in_turn 0 l.runs
