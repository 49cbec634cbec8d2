use Rattle.std.proofs.Common.{◌≡◌, false, take}
use Rattle.xfs_disk.specs.Lists.{is_among}
use Rattle.xfs_rename.proofs.settled.is_one_of.Given as goal

abbrev pub invariant-loop-other : goal.invariant-loop-other
invariant-loop-other l = is_among (take l.other-index l.numbers) l.number ≡ false
