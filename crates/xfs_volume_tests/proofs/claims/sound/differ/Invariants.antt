use Rattle.xfs_claims.proofs.Different.{Later}
use Rattle.xfs_volume_tests.proofs.claims.sound.differ.Given as goal

abbrev pub invariant-loop-left : goal.invariant-loop-left
invariant-loop-left l = Later l.numbers l.later.keys l.left

abbrev pub decreases-loop-left : goal.decreases-loop-left
decreases-loop-left l = l.left
