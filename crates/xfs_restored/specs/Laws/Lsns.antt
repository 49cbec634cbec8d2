-- A law about the log sequence numbers of a volume in which names were changed. The function does nothing; its contract is the law.
use Rattle.std.specs.Prelude.{ℕ, List}
use Rattle.xfs_disk.specs.Blocks.{Image}
use Rattle.xfs_disk.specs.declared.stamp.Stamp.{Stamp}
use Rattle.xfs_geom.specs.Volumes.{volume_of}
use Rattle.xfs_geom.specs.declared.geometry.Geometry.{Geometry}
use Rattle.xfs_image.specs.Lsns.{lsns_read}
use Rattle.xfs_image.specs.View.{log_of}
use Rattle.xfs_laws.specs.Counting.{log_laws}
use Rattle.xfs_rename.specs.xfs_scan.declared.evidence.Evidence.{Evidence}
use Rattle.xfs_volume.specs.Laws.{AreKept}
use Rattle.xfs_rename.specs.xfs_made.Groups.{due_groups}
use Rattle.xfs_rename.specs.xfs_request.Chunks.{inodes_wanted}
use Rattle.xfs_rename.specs.xfs_rebuild.declared.names_due.NamesDue.{NamesDue}
use Rattle.xfs_rename.specs.Lost.{lost_due}
use Rattle.xfs_rename.specs.Renames.{old_files, placed_forks, renamed_slots}
use Rattle.xfs_rename.specs.Settled.{settled}
use Rattle.xfs_rename.specs.declared.planning.Renamed.{Renamed}
use Rattle.xfs_restored.specs.Numbered.{AreNumbered}
use Rattle.xfs_restored.specs.Relinking.{IsRelinked, renamed_files}
use Rattle.xfs_restored.specs.StayingNumbers.{AreDirectories, AreStaying}

-- The log is clean, and no log sequence number is above its head: each of those that stay is one by which the log was judged, and what
-- is made anew has none. This where the numbers of links are those of the files, slots and the blocks of files that were there before
-- stay but where they are made anew, and files that are built anew are directories.
abbrev pub RenamedLsnsAreBehind : Type 0
RenamedLsnsAreBehind = (g : Geometry) (sector : List ℕ) (s : Stamp) (image now : Image) (e : Evidence) (n : NamesDue) (r : Renamed) → (has : IsRelinked g sector s image now e n r)
    → AreNumbered g.rootino has.on.kept (lost_due g n) has.is.w (old_files n has.is.w)
    → AreStaying (volume_of g) image now (settled n (lost_due g n) has.is.w) (renamed_slots g s n has.is.w (placed_forks g n has.is.w has.is.built has.is.placed))
    → AreDirectories has.is.w.rebuilt (renamed_files g s now has.on n has.is.w has.is.built has.is.placed) → (agf_crc agi_crc : ℕ → ℕ)
    → AreKept (log_laws (due_groups (volume_of g) (inodes_wanted (volume_of g) (settled n (lost_due g n) has.is.w)) has.is.placed.groups agf_crc agi_crc) (log_of (volume_of g) now)
    (lsns_read (volume_of g) now (due_groups (volume_of g) (inodes_wanted (volume_of g) (settled n (lost_due g n) has.is.w)) has.is.placed.groups agf_crc agi_crc)
    (renamed_files g s now has.on n has.is.w has.is.built has.is.placed)))
