-- A law about the names of a volume in which names were changed. The function does nothing; its contract is the law.
use Rattle.std.specs.Prelude.{ℕ, List}
use Rattle.xfs_disk.specs.Blocks.{Image}
use Rattle.xfs_disk.specs.declared.stamp.Stamp.{Stamp}
use Rattle.xfs_geom.specs.declared.geometry.Geometry.{Geometry}
use Rattle.xfs_naming.specs.Naming.{naming_laws}
use Rattle.xfs_volume.specs.Laws.{AreKept}
use Rattle.xfs_rename.specs.xfs_scan.declared.evidence.Evidence.{Evidence}
use Rattle.xfs_rename.specs.xfs_rebuild.declared.names_due.NamesDue.{NamesDue}
use Rattle.xfs_rename.specs.declared.planning.Renamed.{Renamed}
use Rattle.xfs_restored.specs.Relinking.{IsRelinked, renamed_dirs, renamed_entries, renamed_files}

-- The files, the entries and the directories that a volume is due to have once its names are changed break no law of names.
abbrev pub RenamedNamesAreLawful : Type 0
RenamedNamesAreLawful = (g : Geometry) (sector : List ℕ) (s : Stamp) (image now : Image) (e : Evidence) (n : NamesDue) (r : Renamed) (has : IsRelinked g sector s image now e n r)
    → AreKept (naming_laws g.rootino (renamed_files g s now has.on n has.is.w has.is.built has.is.placed) (renamed_entries n has.is.w) (renamed_dirs has.is.w))
