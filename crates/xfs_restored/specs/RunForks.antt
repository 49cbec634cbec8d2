-- The forks of directories by the runs that they have.
use Rattle.std.specs.Prelude.{◌≡◌, if◌then◌else◌, List, Some}
use Rattle.xfs_geom.specs.Volumes.{Volume}
use Rattle.xfs_volume.specs.declared.files.FileRec.{FileRec}
use Rattle.xfs_inodebuild.specs.declared.forks.ForkWanted.{ForkWanted}
use Rattle.xfs_rename.specs.xfs_built.Asks.{stands_in_blocks}
use Rattle.xfs_rename.specs.xfs_built.Directories.{BuiltRuns}
use Rattle.xfs_rename.specs.xfs_changes.Forks.{attribute_blocks_at, extents_fork, short_fork}
use Rattle.xfs_rename.specs.xfs_changes.Slots.{fork_at}
use Rattle.xfs_rename.specs.xfs_changes.declared.forks.DirectoryFork.{DirectoryFork}

-- the fork of a directory by its runs, beside the attributes of its file; and that directory finds it among some forks
abbrev pub fork_of_runs : Volume → List FileRec → BuiltRuns → ForkWanted
fork_of_runs v files p =
    if stands_in_blocks p.directory then extents_fork v (attribute_blocks_at files p.directory.ino) p.runs p.directory else short_fork (attribute_blocks_at files p.directory.ino) p.directory

abbrev pub FindsFork : Volume → List FileRec → List DirectoryFork → BuiltRuns → Type 0
FindsFork v files forks p = fork_at forks p.directory.ino ≡ Some (fork_of_runs v files p)
