-- What is left of a rebuild, by what was planned.
use Rattle.std.specs.Prelude.{◌≡◌, ℕ, ◌≤◌, ◌+◌, false, List, length, Option, Some}
use Rattle.xfs_disk.specs.Blocks.{Image}
use Rattle.xfs_disk.specs.declared.stamp.Stamp.{Stamp}
use Rattle.xfs_geom.specs.declared.geometry.Geometry.{Geometry}
use Rattle.xfs_rename.specs.xfs_rebuild.declared.names_due.NamesDue.{NamesDue}
use Rattle.xfs_rename.specs.xfs_rebuild.declared.planning.Rebuilt.{Rebuilt}
use Rattle.xfs_rename.specs.Renames.{IsRenamed}
use Rattle.xfs_writing.specs.Stopped.{IsStopped}
use Rattle.xfs_writing.specs.Writing.{IsPartly, written}
use Rattle.xfs_mend.specs.Outcome.{is_quiet}
use Rattle.xfs_mend.specs.Rebuilding.{IsRenamedDue, IsRenamedWithoutRoom, first_writes, last_writes, rebuild_writes}
use Rattle.xfs_mend.specs.declared.outcome.Outcome.{Outcome}
use Rattle.xfs_mend.specs.declared.outcome.Outcome.TheVariants.{NoRoom, Repaired, WriteFault}
use Rattle.xfs_mend.specs.declared.outcome.Summary.TheVariants.{Backups, Rebuilt as Anew}

-- what this plan leaves, where it was written; no other outcome comes of its writing
abbrev pub LeavesOfRebuilt : Rebuilt → ℕ → Image → Option Image → Outcome → Type 0
LeavesOfRebuilt r orphans image now (Repaired (Backups count)) = ⊥
LeavesOfRebuilt r orphans image now (Repaired (Anew blocks kept cleared lost)) =
    (now ≡ Some (written (rebuild_writes r) image)) × (blocks ≡ length r.fresh + length r.in_place) × (kept ≡ r.kept) × (cleared ≡ r.cleared) × (lost ≡ orphans)
LeavesOfRebuilt r orphans image now (WriteFault blocks) = (blocks ≤ length r.fresh + length r.in_place) × IsPartly (rebuild_writes r) image blocks now
LeavesOfRebuilt r orphans image now outcome = ⊥

abbrev pub StopsOfRebuilt : Rebuilt → Image → Outcome → Image → Type 0
StopsOfRebuilt r image outcome stopped = (is_quiet outcome ≡ false) × IsStopped (first_writes r) (last_writes r) image stopped

-- so does one of those that may be planned, with the number of inodes that it puts into lost+found; any other outcome leaves the image as it was
abbrev pub LeavesAnew : (Rebuilt → ℕ → Type 0) → Image → Option Image → Outcome → Type 0
LeavesAnew planned image now (Repaired summary) = (r : Rebuilt) × (orphans : ℕ) × planned r orphans × LeavesOfRebuilt r orphans image now (Repaired summary)
LeavesAnew planned image now (WriteFault blocks) = (r : Rebuilt) × (orphans : ℕ) × planned r orphans × LeavesOfRebuilt r orphans image now (WriteFault blocks)
LeavesAnew planned image now outcome = now ≡ Some image

abbrev pub StopsAnew : (Rebuilt → ℕ → Type 0) → Image → Outcome → Image → Type 0
StopsAnew planned image outcome stopped = (r : Rebuilt) × (orphans : ℕ) × planned r orphans × StopsOfRebuilt r image outcome stopped

-- this is planned where names have to change
abbrev pub IsRenamedPlan : Geometry → List ℕ → Stamp → Image → NamesDue → Rebuilt → ℕ → Type 0
IsRenamedPlan g sector s image n r orphans = IsRenamed g sector s image n (record { rebuilt = r; orphans = orphans })

-- and this is due then
abbrev pub IsDueRenaming : Geometry → NamesDue → Outcome → Type 0
IsDueRenaming g n (Repaired (Anew blocks kept cleared orphans)) = IsRenamedDue g n kept cleared orphans
IsDueRenaming g n (NoRoom what) = IsRenamedWithoutRoom g n what
IsDueRenaming g n outcome = ⊥
