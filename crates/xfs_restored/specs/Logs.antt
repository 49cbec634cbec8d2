-- Log sequence numbers that stay, and the log that is then due.
use Rattle.std.specs.Prelude.{◌≡◌, ℕ, ◌+◌, ◌*◌, ◌^◌, List, MatchOption}
use Rattle.xfs_disk.specs.Blocks.{Image}
use Rattle.xfs_geom.specs.Volumes.{Volume}
use Rattle.xfs_log.specs.xfs_heads.declared.log_state.LogState.{LogState}
use Rattle.xfs_log.specs.xfs_heads.declared.log_state.LogState.TheVariants.{Clean}
use Rattle.xfs_salvage.specs.declared.found.Salvaged.{Salvaged}
use Rattle.xfs_rename.specs.xfs_request.Cycles.{due_cycle, kept_lsns}
use Rattle.xfs_rename.specs.xfs_request.declared.seen.SlotSeen.{SlotSeen}
use Rattle.xfs_rename.specs.xfs_rebuild.Bytes.{file_lsns}

-- all numbers that stay, in slots and in the blocks of kept files
abbrev pub numbers_kept : Volume → Image → Salvaged → List SlotSeen → List ℕ
numbers_kept v image kept seen = kept_lsns v kept seen (file_lsns v image kept.files)

-- the log that an image has where another one had this log and these numbers: the same, or a blank one of the due cycle
abbrev pub IsLogDue : LogState → List ℕ → LogState → Type 0
IsLogDue log numbers now = MatchOption (due_cycle log numbers) (now ≡ log) (λ cycle. now ≡ Clean (cycle * 2 ^ 32 + 2))
