-- Laws about the groups, the superblocks and the log of a volume in which names were changed. The function does nothing; its contract
use Rattle.std.specs.Prelude.{◌≡◌, ℕ, ◌≤◌, ◌<◌, true, List, Ok}
use Rattle.xfs_disk.specs.Blocks.{Image}
use Rattle.xfs_disk.specs.declared.stamp.Stamp.{Stamp}
use Rattle.xfs_geom.specs.Volumes.{volume_of}
use Rattle.xfs_geom.specs.declared.geometry.Geometry.{Geometry}
use Rattle.xfs_image.specs.Consistent.{IsElected, backup_agrees}
use Rattle.xfs_image.specs.Groups.{groups_read}
use Rattle.xfs_image.specs.View.{counts_of, log_of}
use Rattle.xfs_rename.specs.xfs_scan.declared.evidence.Evidence.{Evidence}
use Rattle.xfs_rename.specs.xfs_made.Groups.{due_groups}
use Rattle.xfs_rename.specs.xfs_made.Standing.{agf_crc_at, agi_crc_at}
use Rattle.xfs_rename.specs.xfs_request.Chunks.{inodes_wanted}
use Rattle.xfs_restored.specs.Logs.{IsLogDue, numbers_kept}
use Rattle.xfs_rename.specs.xfs_rebuild.declared.names_due.NamesDue.{NamesDue}
use Rattle.xfs_rename.specs.Lost.{lost_due}
use Rattle.xfs_rename.specs.Settled.{settled}
use Rattle.xfs_rename.specs.declared.planning.Renamed.{Renamed}
use Rattle.xfs_restored.specs.Relinking.{IsRelinked}

-- All groups read, with the chunks of the clusters that the volume then has and what was placed in each (`groups`). The primary
-- superblock is elected and states the volume (`elected`), all backups agree with it (`backups`), and it has the counters of what was
-- placed (`counts`). The log is the one that is due to the numbers that stay (`log`).
abbrev pub RenamedHeadsReadGroups : Type 0
RenamedHeadsReadGroups = (g : Geometry) (sector : List ℕ) (s : Stamp) (image now : Image) (e : Evidence) (n : NamesDue) (r : Renamed) → (has : IsRelinked g sector s image now e n r)
    → groups_read (volume_of g) now
    ≡ Ok (due_groups (volume_of g) (inodes_wanted (volume_of g) (settled n (lost_due g n) has.is.w)) has.is.placed.groups (agf_crc_at (volume_of g) now) (agi_crc_at (volume_of g) now))

-- of the same, `elected`
abbrev pub RenamedHeadsReadElected : Type 0
RenamedHeadsReadElected = (g : Geometry) (sector : List ℕ) (s : Stamp) (image now : Image) (e : Evidence) (n : NamesDue) (r : Renamed) → IsRelinked g sector s image now e n r
    → (is : IsElected (volume_of g) now) × (is.vote.place ≡ 0)

-- of the same, `backups`
abbrev pub RenamedHeadsReadBackups : Type 0
RenamedHeadsReadBackups = (g : Geometry) (sector : List ℕ) (s : Stamp) (image now : Image) (e : Evidence) (n : NamesDue) (r : Renamed) → IsRelinked g sector s image now e n r
    → (ag : ℕ) → 1 ≤ ag → ag < g.agcount → backup_agrees (volume_of g) now ag ≡ true

-- of the same, `counts`
abbrev pub RenamedHeadsReadCounts : Type 0
RenamedHeadsReadCounts = (g : Geometry) (sector : List ℕ) (s : Stamp) (image now : Image) (e : Evidence) (n : NamesDue) (r : Renamed) → (has : IsRelinked g sector s image now e n r)
    → counts_of now ≡ has.is.placed.counts

-- of the same, `log`
abbrev pub RenamedHeadsReadLog : Type 0
RenamedHeadsReadLog = (g : Geometry) (sector : List ℕ) (s : Stamp) (image now : Image) (e : Evidence) (n : NamesDue) (r : Renamed) → (has : IsRelinked g sector s image now e n r)
    → IsLogDue n.log (numbers_kept (volume_of g) image (settled n (lost_due g n) has.is.w) n.seen) (log_of (volume_of g) now)
