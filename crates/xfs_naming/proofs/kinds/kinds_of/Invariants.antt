use Rattle.std.proofs.Common.{◌≡◌, ◌++◌, drop, map}
use Rattle.xfs_naming.specs.Private.Kinds.{kind_of}
use Rattle.xfs_naming.proofs.kinds.kinds_of.Given as goal

abbrev pub invariant-loop-file : goal.invariant-loop-file
invariant-loop-file l = l.kinds.items ++ map kind_of (drop l.file-index l.files) ≡ map kind_of l.files
