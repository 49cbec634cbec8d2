use Rattle.xfs_volume_tests.specs.Rendered.{AreSmallInodes}
use Rattle.xfs_volume_tests.proofs.render.wanted.list_inodes.Given as goal

abbrev pub invariant-loop-ag : goal.invariant-loop-ag
invariant-loop-ag l = AreSmallInodes l.ag l.all.items
