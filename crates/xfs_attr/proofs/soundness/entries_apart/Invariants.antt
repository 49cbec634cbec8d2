use Rattle.xfs_attr.proofs.Taken.{Marks}
use Rattle.xfs_attr.proofs.soundness.entries_apart.Given as goal

abbrev pub invariant-loop-index : goal.invariant-loop-index
invariant-loop-index l = Marks l.block l.index l.taken
