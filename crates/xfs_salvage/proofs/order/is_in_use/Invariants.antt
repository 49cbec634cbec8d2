use Rattle.std.proofs.Common.{◌≡◌, false, take}
use Rattle.xfs_naming.specs.Naming.{is_in_use}
use Rattle.xfs_salvage.proofs.order.is_in_use.Given as goal

abbrev pub invariant-loop-file : goal.invariant-loop-file
invariant-loop-file l = is_in_use (take l.file-index l.files) l.ino ≡ false
