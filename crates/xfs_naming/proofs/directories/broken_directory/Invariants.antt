use Rattle.std.proofs.Common.{◌≡◌, map, drop}
use Rattle.xfs_volume.specs.Laws.{first_broken}
use Rattle.xfs_naming.specs.Naming.{directory_at}
use Rattle.xfs_naming.proofs.directories.broken_directory.Given as goal

abbrev pub invariant-loop-dir : goal.invariant-loop-dir
invariant-loop-dir l =
    first_broken (map (directory_at l.names.root l.names.files.now l.names.entries.now) (drop l.dir-index l.names.dirs.now))
    ≡ first_broken (map (directory_at l.names.root l.names.files.now l.names.entries.now) l.names.dirs.now)
