-- Laws about the numbers of a volume in which names were changed. The function does nothing; its contract is the laws.
use Rattle.std.specs.Prelude.{ℕ, List}
use Rattle.xfs_disk.specs.Blocks.{Image}
use Rattle.xfs_disk.specs.declared.stamp.Stamp.{Stamp}
use Rattle.xfs_geom.specs.Volumes.{volume_of}
use Rattle.xfs_geom.specs.declared.geometry.Geometry.{Geometry}
use Rattle.xfs_rename.specs.xfs_scan.declared.evidence.Evidence.{Evidence}
use Rattle.xfs_rename.specs.xfs_rebuild.declared.names_due.NamesDue.{NamesDue}
use Rattle.xfs_rename.specs.Lost.{lost_due}
use Rattle.xfs_rename.specs.Renames.{old_files, placed_forks, renamed_slots}
use Rattle.xfs_rename.specs.Settled.{settled}
use Rattle.xfs_rename.specs.declared.planning.Renamed.{Renamed}
use Rattle.xfs_restored.specs.Numbered.{AreNumbered}
use Rattle.xfs_restored.specs.Relinking.{IsRelinked, renamed_files}
use Rattle.xfs_restored.specs.StayingNumbers.{AreDirectories, AreStaying}

-- The numbers of links are those of the files (`numbered`). Each slot of the clusters is made anew or stays, and the blocks of the files
-- that were there before stay, but for those of data that is built anew (`staying`). What is built anew are directories (`directories`).
abbrev pub RenamedNumbersAreKnownNumbered : Type 0
RenamedNumbersAreKnownNumbered = (g : Geometry) (sector : List ℕ) (s : Stamp) (image now : Image) (e : Evidence) (n : NamesDue) (r : Renamed) → (has : IsRelinked g sector s image now e n r)
    → AreNumbered g.rootino has.on.kept (lost_due g n) has.is.w (old_files n has.is.w)

-- of the same, `staying`
abbrev pub RenamedNumbersAreKnownStaying : Type 0
RenamedNumbersAreKnownStaying = (g : Geometry) (sector : List ℕ) (s : Stamp) (image now : Image) (e : Evidence) (n : NamesDue) (r : Renamed) → (has : IsRelinked g sector s image now e n r)
    → AreStaying (volume_of g) image now (settled n (lost_due g n) has.is.w) (renamed_slots g s n has.is.w (placed_forks g n has.is.w has.is.built has.is.placed))

-- of the same, `directories`
abbrev pub RenamedNumbersAreKnownDirectories : Type 0
RenamedNumbersAreKnownDirectories = (g : Geometry) (sector : List ℕ) (s : Stamp) (image now : Image) (e : Evidence) (n : NamesDue) (r : Renamed) → (has : IsRelinked g sector s image now e n r)
    → AreDirectories has.is.w.rebuilt (renamed_files g s now has.on n has.is.w has.is.built has.is.placed)
