use Rattle.std.proofs.Common.{◌≡◌, ◌++◌, drop}
use Rattle.xfs_changes.specs.Rooms.{fork_rooms}
use Rattle.xfs_changes.proofs.rooms.fork_rooms.Given as goal

abbrev pub invariant-loop-file : goal.invariant-loop-file
invariant-loop-file l = l.rooms.items ++ fork_rooms l.rebuilt (drop l.file-index l.files) ≡ fork_rooms l.rebuilt l.files
