use Rattle.std.proofs.Common.{◌-◌}
use Rattle.xfs_disk.specs.Lists.{is_in_range}
use Rattle.xfs_place.specs.Pool.{MarksUses}
use Rattle.xfs_place.proofs.uses.mark.Given as goal

abbrev pub invariant-loop-block : goal.invariant-loop-block
invariant-loop-block l = MarksUses l.fn.uses l.uses (is_in_range l.start (l.block - l.start)) l.now
