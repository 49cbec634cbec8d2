use Rattle.xfs_geom.specs.Volumes.{volume_of}
use Rattle.xfs_rounds.specs.Judged.{ArePartsBelow}
use Rattle.xfs_rounds.proofs.judging.judge_block.Given as goal

abbrev pub invariant-loop-slot : goal.invariant-loop-slot
invariant-loop-slot l = ArePartsBelow (volume_of l.g) l.block l.bytes l.slot l.parts.items
