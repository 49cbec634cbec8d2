-- Laws about the groups, the superblocks and the log of a volume that was rebuilt. Each function does nothing; its contract is the
use Rattle.std.specs.Prelude.{◌≡◌, ℕ, ◌+◌, ◌*◌, ◌^◌, ◌≤◌, ◌<◌, true, List, Ok, Some, None, MatchOption}
use Rattle.xfs_disk.specs.Blocks.{Image}
use Rattle.xfs_disk.specs.declared.stamp.Stamp.{Stamp}
use Rattle.xfs_geom.specs.Volumes.{volume_of}
use Rattle.xfs_geom.specs.declared.geometry.Geometry.{Geometry}
use Rattle.xfs_log.specs.xfs_heads.declared.log_state.LogState.{LogState}
use Rattle.xfs_image.specs.Consistent.{IsElected, backup_agrees}
use Rattle.xfs_image.specs.Groups.{groups_read}
use Rattle.xfs_image.specs.View.{counts_of, log_of}
use Rattle.xfs_rename.specs.xfs_scan.Evidence.{IsEvidence}
use Rattle.xfs_rename.specs.xfs_scan.declared.evidence.Evidence.{Evidence}
use Rattle.xfs_rename.specs.xfs_made.Groups.{due_groups}
use Rattle.xfs_rename.specs.xfs_made.Standing.{agf_crc_at, agi_crc_at}
use Rattle.xfs_rename.specs.xfs_request.Chunks.{inodes_wanted}
use Rattle.xfs_rename.specs.xfs_request.Cycles.{due_cycle, kept_lsns}
use Rattle.xfs_rename.specs.xfs_rebuild.Bytes.{file_lsns}
use Rattle.xfs_rename.specs.xfs_rebuild.Rebuilds.{Ground, IsPlannedOn, IsRebuildOf}
use Rattle.xfs_rename.specs.xfs_rebuild.declared.planning.Rebuilt.{Rebuilt}
use Rattle.xfs_restored.specs.Rewriting.{IsRewritten}

-- All groups read, with the chunks of the kept clusters and what was placed in each.
abbrev pub RebuiltGroupsRead : Type 0
RebuiltGroupsRead = (g : Geometry) (sector : List ℕ) (s : Stamp) (image now : Image) (on : Ground) (r : Rebuilt) (is : IsPlannedOn g sector s image on r)
    → IsRewritten g r image now
    → groups_read (volume_of g) now ≡ Ok (due_groups (volume_of g) (inodes_wanted (volume_of g) on.kept) is.planned.placed.groups (agf_crc_at (volume_of g) now) (agi_crc_at (volume_of g) now))

-- The primary superblock is elected and states the volume (`elected`), all backups agree with it (`backups`), and it has the counters
-- of what was placed (`counts`).
abbrev pub RebuiltSupersAreElectedElected : Type 0
RebuiltSupersAreElectedElected = (g : Geometry) (sector : List ℕ) (s : Stamp) (image now : Image) (on : Ground) (r : Rebuilt) → IsPlannedOn g sector s image on r
    → IsRewritten g r image now → (is : IsElected (volume_of g) now) × (is.vote.place ≡ 0)

-- of the same, `backups`
abbrev pub RebuiltSupersAreElectedBackups : Type 0
RebuiltSupersAreElectedBackups = (g : Geometry) (sector : List ℕ) (s : Stamp) (image now : Image) (on : Ground) (r : Rebuilt) → IsPlannedOn g sector s image on r
    → IsRewritten g r image now → (ag : ℕ) → 1 ≤ ag → ag < g.agcount → backup_agrees (volume_of g) now ag ≡ true

-- of the same, `counts`
abbrev pub RebuiltSupersAreElectedCounts : Type 0
RebuiltSupersAreElectedCounts = (g : Geometry) (sector : List ℕ) (s : Stamp) (image now : Image) (on : Ground) (r : Rebuilt) (is : IsPlannedOn g sector s image on r)
    → IsRewritten g r image now → counts_of now ≡ is.planned.placed.counts

-- The log is clean: of the cycle that is due to it where it is to be blank (`blank`), else as it was (`stays`), which was clean
-- then; so it is in any case (`clean`). Which of both goes by the numbers that stay (`due`).
abbrev pub RebuiltLogsAreCleanBlank : Type 0
RebuiltLogsAreCleanBlank = (g : Geometry) (sector : List ℕ) (s : Stamp) (image now : Image) (on : Ground) (r : Rebuilt) (is : IsPlannedOn g sector s image on r)
    → IsRewritten g r image now → (cycle : ℕ) → is.bytes.cycle ≡ Some cycle → log_of (volume_of g) now ≡ LogState.Clean (cycle * 2 ^ 32 + 2)

-- of the same, `stays`
abbrev pub RebuiltLogsAreCleanStays : Type 0
RebuiltLogsAreCleanStays = (g : Geometry) (sector : List ℕ) (s : Stamp) (image now : Image) (on : Ground) (r : Rebuilt) (is : IsPlannedOn g sector s image on r)
    → IsRewritten g r image now → is.bytes.cycle ≡ None → log_of (volume_of g) now ≡ log_of (volume_of g) image

-- of the same, `clean`
abbrev pub RebuiltLogsAreCleanClean : Type 0
RebuiltLogsAreCleanClean = (g : Geometry) (sector : List ℕ) (s : Stamp) (image now : Image) (e : Evidence) (r : Rebuilt) → IsEvidence g image e
    → IsRebuildOf g sector s image e r → IsRewritten g r image now → (head : ℕ) × (log_of (volume_of g) now ≡ LogState.Clean head)

-- of the same, `due`
abbrev pub RebuiltLogsAreCleanDue : Type 0
RebuiltLogsAreCleanDue = (g : Geometry) (sector : List ℕ) (s : Stamp) (image now : Image) (e : Evidence) (r : Rebuilt) → IsEvidence g image e
    → (is : IsRebuildOf g sector s image e r) → IsRewritten g r image now
    → MatchOption (due_cycle is.on.log (kept_lsns (volume_of g) is.on.kept is.on.seen (file_lsns (volume_of g) image is.on.kept.files)))
    (log_of (volume_of g) now ≡ is.on.log) (λ cycle. log_of (volume_of g) now ≡ LogState.Clean (cycle * 2 ^ 32 + 2))
