use Rattle.std.proofs.Common.{◌↔◌, drop}
use Rattle.xfs_naming.specs.Naming.{NumbersAscend, numbers_of}
use Rattle.xfs_laws.proofs.named.ascend.Given as goal

abbrev pub invariant-loop-file : goal.invariant-loop-file
invariant-loop-file l = NumbersAscend l.least (numbers_of (drop l.file-index l.files)) ↔ NumbersAscend 0 (numbers_of l.files)
