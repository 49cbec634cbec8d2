-- The names that a rebuilt volume has.
use Rattle.std.specs.Prelude.{◌≡◌, List, Ok}
use Rattle.xfs_disk.specs.Blocks.{Image}
use Rattle.xfs_dirdata.specs.declared.records.EntryRec.{EntryRec}
use Rattle.xfs_geom.specs.declared.geometry.Geometry.{Geometry}
use Rattle.xfs_image.specs.View.{view}
use Rattle.xfs_volume.specs.declared.catalogs.Catalog.{Catalog}
use Rattle.xfs_volume.specs.declared.directories.DirRec.{DirRec}
use Rattle.xfs_names.specs.declared.records.WantedNames.{WantedNames}
use Rattle.xfs_rename.specs.xfs_rebuild.Rebuilds.{Ground}
use Rattle.xfs_rename.specs.xfs_rebuild.declared.names_due.NamesDue.{NamesDue}
use Rattle.xfs_restored.specs.DueFiles.{rebuilt_dirs}
use Rattle.xfs_restored.specs.Relinking.{renamed_dirs, renamed_entries}

-- an image reads as a volume with these entries, directory by directory and in this order, and with these directories
pub record HasNames (g : Geometry) (entries : List EntryRec) (dirs : List DirRec) (image : Image) : Type 0 where
  pub catalog : Catalog
  pub reads : view g image ≡ Ok catalog
  pub entries' : catalog.entries ≡ entries
  pub dirs' : catalog.dirs ≡ dirs

-- where no name has to change: the entries and the directories that are kept
abbrev pub HasKeptNames : Geometry → Ground → Image → Type 0
HasKeptNames g on now = HasNames g on.kept.entries (rebuilt_dirs g.rootino on.kept) now

-- where some have to: each directory is whole and has the parent that is wanted; one that is built anew has the entries that are wanted, in
-- their order, each other one those that it had
abbrev pub HasWantedNames : Geometry → NamesDue → WantedNames → Image → Type 0
HasWantedNames g n w now = HasNames g (renamed_entries n w) (renamed_dirs w) now
