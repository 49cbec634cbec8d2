-- Which kept files stay: not a root that is no directory, and not a system inode that is no empty regular file.
use Rattle.std.specs.Prelude.{ℕ, Bool, true, ◌==◌, if◌then◌else◌}
use Rattle.xfs_volume.specs.Names.{is_directory}
use Rattle.xfs_volume.specs.declared.files.FileRec.{FileRec}
use Rattle.xfs_laws.specs.xfs_naming.Naming.{is_empty_regular, is_system}

abbrev pub stands : ℕ → FileRec → Bool
stands root f = if f.ino == root then is_directory f else (if is_system root f.ino then is_empty_regular f else true)
