-- A law about the directories of a volume in which names were changed. The function does nothing; its contract is the law.
use Rattle.std.specs.Prelude.{◌≡◌, ℕ, List}
use Rattle.xfs_disk.specs.Blocks.{Image}
use Rattle.xfs_disk.specs.declared.stamp.Stamp.{Stamp}
use Rattle.xfs_geom.specs.Volumes.{volume_of}
use Rattle.xfs_geom.specs.declared.geometry.Geometry.{Geometry}
use Rattle.xfs_image.specs.Directories.{dirs_read, entries_read}
use Rattle.xfs_rename.specs.xfs_scan.declared.evidence.Evidence.{Evidence}
use Rattle.xfs_rename.specs.xfs_rebuild.declared.names_due.NamesDue.{NamesDue}
use Rattle.xfs_rename.specs.declared.planning.Renamed.{Renamed}
use Rattle.xfs_restored.specs.Relinking.{IsRelinked, renamed_dirs, renamed_entries, renamed_files}

-- The directories among the files that are due read with the entries that are due (`entries`), each whole, with its parent (`dirs`):
-- those that were built anew as they were wanted, the others as they were found.
abbrev pub RenamedDirectoriesReadEntries : Type 0
RenamedDirectoriesReadEntries = (g : Geometry) (sector : List ℕ) (s : Stamp) (image now : Image) (e : Evidence) (n : NamesDue) (r : Renamed) (has : IsRelinked g sector s image now e n r)
    → entries_read (volume_of g) now (renamed_files g s now has.on n has.is.w has.is.built has.is.placed) ≡ renamed_entries n has.is.w

-- of the same, `dirs`
abbrev pub RenamedDirectoriesReadDirs : Type 0
RenamedDirectoriesReadDirs = (g : Geometry) (sector : List ℕ) (s : Stamp) (image now : Image) (e : Evidence) (n : NamesDue) (r : Renamed) (has : IsRelinked g sector s image now e n r)
    → dirs_read (volume_of g) now (renamed_files g s now has.on n has.is.w has.is.built has.is.placed) ≡ renamed_dirs has.is.w
