use Rattle.std.proofs.Common.{◌≡◌, ◌+◌, ◌-◌, find}
use Rattle.std.specs.List.{range_with_len}
use Rattle.xfs_names.specs.Place.{is_free_inode}
use Rattle.xfs_names.proofs.place.free_in_cluster.Given as goal

abbrev pub invariant-loop-ino : goal.invariant-loop-ino
invariant-loop-ino l = find (is_free_inode l.nodes l.root) (range_with_len l.ino (l.fn.first + 32 - l.ino)) ≡ find (is_free_inode l.nodes l.root) (range_with_len l.fn.first 32)
