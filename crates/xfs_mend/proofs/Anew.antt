-- What is left of a rebuild, and what is due where it is planned.
use Rattle.std.proofs.Common.{◌≡◌, ℕ, ◌+◌, ◌⊎◌, inl, inr, List, length, Option, refl, sym, ◌∙◌, subst}
use Rattle.xfs_disk.specs.Blocks.{Image}
use Rattle.xfs_disk.specs.declared.stamp.Stamp.{Stamp}
use Rattle.xfs_geom.specs.declared.geometry.Geometry.{Geometry}
use Rattle.xfs_empty.proofs.Room.{has_room}
use Rattle.xfs_scan.specs.Evidence.{IsEvidence}
use Rattle.xfs_scan.specs.declared.evidence.Evidence.{Evidence}
use Rattle.xfs_rename.specs.xfs_rebuild.Rebuilds.{IsRebuildOf, asked}
use Rattle.xfs_rename.specs.xfs_rebuild.Refusals.{IsRefused}
use Rattle.xfs_rename.specs.xfs_rebuild.declared.faults.RebuildFault.TheVariants as faults
use Rattle.xfs_rename.specs.xfs_rebuild.declared.planning.Rebuilt.{Rebuilt}
use Rattle.xfs_place.specs.declared.faults.Unplaced.{Unplaced}
use Rattle.xfs_mend.proofs.Rebuilt.{is_rebuilt}
use Rattle.xfs_mend.specs.Due.{IsOwed}
use Rattle.xfs_mend.specs.Outcome.{RepairLeaves, StopsBy}
use Rattle.xfs_mend.specs.Private.Rebuilds.{LeavesAnew, LeavesOfRebuilt, StopsAnew, StopsOfRebuilt}
use Rattle.xfs_mend.specs.Rebuilding.{IsAnewDue, IsDueRebuild, IsPlannedRebuild}
use Rattle.xfs_mend.specs.declared.outcome.Outcome.{Outcome}
use Rattle.xfs_mend.specs.declared.outcome.Outcome.TheVariants.{NoGeometry, Unsupported, DirtyLog, TooLarge, UnsupportedFile, Clean, Damaged, Repaired, NoRoom, ReadFault, WriteFault, NoMemory}
use Rattle.xfs_mend.specs.declared.outcome.Summary.TheVariants.{Backups, Rebuilt as Anew}

-- where a rebuild is planned in which no name changes it is due, and all finds room
kept_due : (g : Geometry) (sector : List ℕ) (s : Stamp) (image : Image) (e : Evidence) (r : Rebuilt) (kept cleared orphans : ℕ) → IsEvidence g image e
    → IsRebuildOf g sector s image e r → kept ≡ r.kept → cleared ≡ r.cleared → orphans ≡ 0 → IsAnewDue g s image kept cleared orphans
kept_due g sector s image e r kept cleared orphans evidence is same freed none = inl (record {
  on = is.on;
  ground = record { e = e; evidence = evidence; ground = is.ground };
  named = is.planned.named;
  room = has_room (asked g is.on) is.planned.planned.placed is.planned.planned.stands;
  kept' = same ∙ is.planned.count;
  cleared' = freed ∙ is.planned.freed;
  none = none;
})

-- so it is where it was written, in whole or in part
pub written_due : (g : Geometry) (sector : List ℕ) (s : Stamp) (image : Image) (now : Option Image) (e : Evidence) (r : Rebuilt) (a : Outcome) → IsEvidence g image e
    → IsRebuildOf g sector s image e r → LeavesOfRebuilt r 0 image now a → IsOwed (IsDueRebuild g s image) a
written_due g sector s image now e r (Repaired (Backups count)) evidence is left = absurd left
written_due g sector s image now e r (Repaired (Anew blocks kept cleared orphans)) evidence is (holds, counted, same, freed, none) =
    kept_due g sector s image e r kept cleared orphans evidence is same freed none
written_due g sector s image now e r (WriteFault blocks) evidence is (most, partly) = (
  Anew (length r.fresh + length r.in_place) r.kept r.cleared 0,
  most,
  kept_due g sector s image e r r.kept r.cleared 0 evidence is refl refl refl,
)
written_due g sector s image now e r NoGeometry evidence is left = absurd left
written_due g sector s image now e r (Unsupported word bits) evidence is left = absurd left
written_due g sector s image now e r DirtyLog evidence is left = absurd left
written_due g sector s image now e r (TooLarge what count) evidence is left = absurd left
written_due g sector s image now e r (UnsupportedFile ino what) evidence is left = absurd left
written_due g sector s image now e r Clean evidence is left = absurd left
written_due g sector s image now e r (Damaged finding) evidence is left = absurd left
written_due g sector s image now e r (NoRoom what) evidence is left = absurd left
written_due g sector s image now e r (ReadFault faults) evidence is left = tt
written_due g sector s image now e r NoMemory evidence is left = tt

pub room_due : (g : Geometry) (s : Stamp) (image : Image) (e : Evidence) (what : Unplaced) → IsEvidence g image e → IsRefused g s e (faults.NoRoom what)
    → IsDueRebuild g s image (NoRoom what)
room_due g s image e what evidence (on, is, named, finds) = inl (record {
  on = on;
  ground = record { e = e; evidence = evidence; ground = is };
  named = named;
  finds = finds;
})

-- what was written of one that may be planned
pub leaves_anew : (planned : Rebuilt → ℕ → Type 0) (r : Rebuilt) (orphans : ℕ) (image : Image) (now : Option Image) (a : Outcome) → planned r orphans
    → LeavesOfRebuilt r orphans image now a → LeavesAnew planned image now a
leaves_anew planned r orphans image now (Repaired summary) is left = (r, orphans, is, left)
leaves_anew planned r orphans image now (WriteFault blocks) is left = (r, orphans, is, left)
leaves_anew planned r orphans image now NoGeometry is left = absurd left
leaves_anew planned r orphans image now (Unsupported word bits) is left = absurd left
leaves_anew planned r orphans image now DirtyLog is left = absurd left
leaves_anew planned r orphans image now (TooLarge what count) is left = absurd left
leaves_anew planned r orphans image now (UnsupportedFile ino what) is left = absurd left
leaves_anew planned r orphans image now Clean is left = absurd left
leaves_anew planned r orphans image now (Damaged finding) is left = absurd left
leaves_anew planned r orphans image now (NoRoom what) is left = absurd left
leaves_anew planned r orphans image now (ReadFault faults) is left = absurd left
leaves_anew planned r orphans image now NoMemory is left = absurd left

pub stops_of_anew : (planned : Rebuilt → ℕ → Type 0) (r : Rebuilt) (orphans : ℕ) (image : Image) (a : Outcome) (stopped : Image) (Before : Type 0) → planned r orphans
    → Before ⊎ StopsOfRebuilt r image a stopped → Before ⊎ StopsAnew planned image a stopped
stops_of_anew planned r orphans image a stopped Before is (inl was) = inl was
stops_of_anew planned r orphans image a stopped Before is (inr left) = inr (r, orphans, is, left)

-- what is left by a plan of one kind is left by one of a wider kind
pub leaves_as : (planned other : Rebuilt → ℕ → Type 0) (image : Image) (now : Option Image) (a : Outcome)
    → ((r : Rebuilt) (orphans : ℕ) → planned r orphans → other r orphans) → LeavesAnew planned image now a → LeavesAnew other image now a
leaves_as planned other image now (Repaired summary) step (r, orphans, is, left) = (r, orphans, step r orphans is, left)
leaves_as planned other image now (WriteFault blocks) step (r, orphans, is, left) = (r, orphans, step r orphans is, left)
leaves_as planned other image now NoGeometry step left = left
leaves_as planned other image now (Unsupported word bits) step left = left
leaves_as planned other image now DirtyLog step left = left
leaves_as planned other image now (TooLarge what count) step left = left
leaves_as planned other image now (UnsupportedFile ino what) step left = left
leaves_as planned other image now Clean step left = left
leaves_as planned other image now (Damaged finding) step left = left
leaves_as planned other image now (NoRoom what) step left = left
leaves_as planned other image now (ReadFault faults) step left = left
leaves_as planned other image now NoMemory step left = left

pub stops_as : (planned other : Rebuilt → ℕ → Type 0) (image : Image) (a : Outcome) (stopped : Image) (Before : Type 0)
    → ((r : Rebuilt) (orphans : ℕ) → planned r orphans → other r orphans) → Before ⊎ StopsAnew planned image a stopped → Before ⊎ StopsAnew other image a stopped
stops_as planned other image a stopped Before step (inl was) = inl was
stops_as planned other image a stopped Before step (inr (r, orphans, is, left)) = inr (r, orphans, step r orphans is, left)

-- and what a repair of the image leaves, where each of these is planned of it
pub rebuilt_leaves : (planned : Rebuilt → ℕ → Type 0) (s : Stamp) (image : Image) (now : Option Image) (a : Outcome)
    → ((r : Rebuilt) (orphans : ℕ) → planned r orphans → IsPlannedRebuild s image r orphans) → LeavesAnew planned image now a → RepairLeaves s image now a
rebuilt_leaves planned s image now (Repaired (Backups count)) plan (r, orphans, is, left) = absurd left
rebuilt_leaves planned s image now (Repaired (Anew blocks kept cleared lost)) plan (r, orphans, is, (holds, counted, same, freed, put)) =
    is_rebuilt s image now r blocks kept cleared lost (subst (λ (n : ℕ). IsPlannedRebuild s image r n) (sym put) (plan r orphans is)) holds counted same freed
rebuilt_leaves planned s image now (WriteFault blocks) plan (r, orphans, is, (most, partly)) =
    inr (record { r = r; orphans = orphans; plan = plan r orphans is; most = most; is = partly })
rebuilt_leaves planned s image now NoGeometry plan left = left
rebuilt_leaves planned s image now (Unsupported word bits) plan left = left
rebuilt_leaves planned s image now DirtyLog plan left = left
rebuilt_leaves planned s image now (TooLarge what count) plan left = left
rebuilt_leaves planned s image now (UnsupportedFile ino what) plan left = left
rebuilt_leaves planned s image now Clean plan left = left
rebuilt_leaves planned s image now (Damaged finding) plan left = left
rebuilt_leaves planned s image now (NoRoom what) plan left = left
rebuilt_leaves planned s image now (ReadFault faults) plan left = left
rebuilt_leaves planned s image now NoMemory plan left = left

pub stops_rebuilt : (planned : Rebuilt → ℕ → Type 0) (s : Stamp) (image : Image) (a : Outcome) (stopped : Image) (Before : Type 0)
    → ((r : Rebuilt) (orphans : ℕ) → planned r orphans → IsPlannedRebuild s image r orphans) → Before ⊎ StopsAnew planned image a stopped
    → Before ⊎ StopsBy s image a stopped
stops_rebuilt planned s image a stopped Before plan (inl was) = inl was
stops_rebuilt planned s image a stopped Before plan (inr (r, orphans, is, (loud, left))) =
    inr (loud, inr (record { r = r; orphans = orphans; plan = plan r orphans is; is = left }))
