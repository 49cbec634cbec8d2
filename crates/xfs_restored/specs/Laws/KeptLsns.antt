-- A law about the log sequence numbers of a rebuilt volume. The function does nothing; its contract is the laws.
use Rattle.std.specs.Prelude.{◌≡◌, ℕ, true, List, ◌∷◌}
use Rattle.std.specs.List.{All}
use Rattle.xfs_disk.specs.Blocks.{Image}
use Rattle.xfs_disk.specs.declared.stamp.Stamp.{Stamp}
use Rattle.xfs_geom.specs.Volumes.{volume_of}
use Rattle.xfs_geom.specs.declared.geometry.Geometry.{Geometry}
use Rattle.xfs_log.specs.xfs_heads.declared.log_state.LogState.{LogState}
use Rattle.xfs_image.specs.Files.{clusters_of}
use Rattle.xfs_image.specs.Lsns.{LsnPlace, at, groups_places, lsn_at, lsns_read}
use Rattle.xfs_laws.specs.Counting.{by_group, group_chains, head_of, is_behind, log_laws}
use Rattle.xfs_volume.specs.Laws.{AreKept}
use Rattle.xfs_volume.specs.declared.catalogs.BlockLsn.{BlockLsn}
use Rattle.xfs_volume.specs.declared.groups.GroupRec.{GroupRec}
use Rattle.xfs_salvage.specs.declared.found.Salvaged.{Salvaged}
use Rattle.xfs_rename.specs.xfs_request.declared.seen.SlotSeen.{SlotSeen}
use Rattle.xfs_restored.specs.DueFiles.{rebuilt_files}
use Rattle.xfs_restored.specs.Kept.{HasKept}
use Rattle.xfs_restored.specs.Logs.{IsLogDue, numbers_kept}

-- Where the superblock, the headers and the trees state no log sequence number and the log is the due one, no number is above its
-- head (`behind`), so the laws of the log are kept (`kept`).
abbrev pub RewrittenLsnsAreBehindBehind : Type 0
RewrittenLsnsAreBehindBehind = (g : Geometry) (s : Stamp) (image now : Image) (kept : Salvaged) (seen : List SlotSeen) (groups : List GroupRec) (crc : ℕ → ℕ) (before after : LogState)
    → HasKept g s image now kept seen → clusters_of (volume_of g) groups ≡ kept.clusters
    → All (λ (place : LsnPlace). (lsn_at now place).lsn ≡ 0) (at 240 0 ∷ groups_places (volume_of g) 0 groups)
    → IsLogDue before (numbers_kept (volume_of g) image kept seen) after
    → All (λ (l : BlockLsn). is_behind (head_of after) l.lsn ≡ true) (lsns_read (volume_of g) now groups (rebuilt_files (volume_of g) s kept seen crc))

-- of the same, `kept`
abbrev pub RewrittenLsnsAreBehindKept : Type 0
RewrittenLsnsAreBehindKept = (g : Geometry) (s : Stamp) (image now : Image) (kept : Salvaged) (seen : List SlotSeen) (groups : List GroupRec) (crc : ℕ → ℕ) (before after : LogState)
    → HasKept g s image now kept seen → clusters_of (volume_of g) groups ≡ kept.clusters
    → All (λ (place : LsnPlace). (lsn_at now place).lsn ≡ 0) (at 240 0 ∷ groups_places (volume_of g) 0 groups)
    → IsLogDue before (numbers_kept (volume_of g) image kept seen) after
    → AreKept (by_group group_chains 0 groups)
    → AreKept (log_laws groups after (lsns_read (volume_of g) now groups (rebuilt_files (volume_of g) s kept seen crc)))
