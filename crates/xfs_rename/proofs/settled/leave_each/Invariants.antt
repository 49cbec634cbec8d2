use Rattle.std.proofs.Common.{◌≡◌, ◌++◌, map, take, drop}
use Rattle.xfs_rename.specs.Settled.{staying_file}
use Rattle.xfs_rename.proofs.settled.leave_each.Given as goal

abbrev pub invariant-loop-file : goal.invariant-loop-file
invariant-loop-file l = l.files ≡ map (staying_file l.rebuilt) (take l.file-index l.fn.files) ++ drop l.file-index l.fn.files
