-- Whether a log is to be blank, and of which cycle (chapter "Journaling Log").
use Rattle.std.specs.Prelude.{ℕ, Bool, false, not, max, ◌+◌, ◌-◌, ◌/◌, ◌^◌, ◌==◌, ◌&&◌, ◌||◌, if◌then◌else◌, List, [], ◌∷◌, ◌++◌, Option, Some, None}
use Rattle.std.specs.List.{flat_map, list_all}
use Rattle.xfs_disk.specs.Lists.{is_among}
use Rattle.xfs_geom.specs.Volumes.{Volume}
use Rattle.xfs_log.specs.xfs_heads.declared.log_state.LogState.{LogState}
use Rattle.xfs_log.specs.xfs_heads.declared.log_state.LogState.TheVariants.{Clean, Dirty}
use Rattle.xfs_salvage.specs.xfs_image.Clusters.{cluster_of}
use Rattle.xfs_salvage.specs.xfs_laws.Counting.{is_behind}
use Rattle.xfs_naming.specs.Naming.{is_in_use}
use Rattle.xfs_salvage.specs.declared.found.Salvaged.{Salvaged}
use Rattle.xfs_request.specs.Slots.{is_free}
use Rattle.xfs_request.specs.declared.seen.SlotSeen.{SlotSeen}

-- the slot keeps its log sequence number: it is of a kept cluster, and neither freed nor made anew
abbrev pub keeps_lsn : Volume → Salvaged → SlotSeen → Bool
keeps_lsn v kept slot =
    is_among kept.clusters (cluster_of v slot.ino) && (is_in_use kept.files slot.ino || (is_free slot.state && not (is_among kept.fresh slot.ino)))

abbrev pub lsn_listed : Volume → Salvaged → SlotSeen → List ℕ
lsn_listed v kept slot = if keeps_lsn v kept slot then slot.lsn ∷ [] else []

-- the numbers that stay: those of slots, and those of the blocks of files
unfoldable pub kept_lsns : Volume → Salvaged → List SlotSeen → List ℕ → List ℕ
kept_lsns v kept slots lsns = flat_map (lsn_listed v kept) slots ++ lsns

-- the cycle of a number; all ones stand for no number
abbrev pub cycle_of : ℕ → ℕ
cycle_of lsn = if lsn == 2 ^ 64 - 1 then 0 else lsn / 2 ^ 32

abbrev pub greatest_cycle : List ℕ → ℕ
greatest_cycle [] = 0
greatest_cycle (lsn ∷ lsns) = max (cycle_of lsn) (greatest_cycle lsns)

-- the log stays where it is clean and no number is above its head
abbrev pub keeps_log : LogState → List ℕ → Bool
keeps_log (Clean head) lsns = list_all (is_behind head) lsns
keeps_log Dirty lsns = false

-- else it is blank, one cycle behind the greatest
abbrev pub due_cycle : LogState → List ℕ → Option ℕ
due_cycle log lsns = if keeps_log log lsns then None else Some (1 + greatest_cycle lsns)
