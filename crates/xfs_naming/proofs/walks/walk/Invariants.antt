use Rattle.std.proofs.Common.{◌+◌, ◌-◌, length}
use Rattle.xfs_naming.specs.Private.Walking.{IsWalking}
use Rattle.xfs_naming.proofs.walks.walk.Given as goal

abbrev pub invariant-loop-dir : goal.invariant-loop-dir
invariant-loop-dir l = IsWalking l.names.root l.names.files.now l.names.entries.now l.names.dirs.now l.reached.keys l.waiting.items

abbrev pub decreases-loop-dir : goal.decreases-loop-dir
decreases-loop-dir l = ((length l.names.dirs.now + 1) + length l.waiting.items) - length l.reached.keys
