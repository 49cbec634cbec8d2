use Rattle.std.proofs.Common.{◌≡◌, ◌++◌, filter}
use Rattle.xfs_image.specs.Directories.{is_beside_dots}
use Rattle.xfs_dirs.proofs.entries.push_named.Given as goal

abbrev pub invariant-loop-entry : goal.invariant-loop-entry
invariant-loop-entry l = l.named.items ≡ l.fn.named.items ++ filter is_beside_dots l.yielded
