-- What is left of a rebuild in which names change, and what is due where it is planned.
use Rattle.std.proofs.Common.{◌≡◌, ℕ, ◌+◌, inr, List, length, Option, refl, ◌∙◌}
use Rattle.xfs_disk.specs.Blocks.{Image}
use Rattle.xfs_disk.specs.declared.stamp.Stamp.{Stamp}
use Rattle.xfs_geom.specs.declared.geometry.Geometry.{Geometry}
use Rattle.xfs_empty.proofs.Room.{has_room}
use Rattle.xfs_scan.specs.Evidence.{IsEvidence}
use Rattle.xfs_scan.specs.declared.evidence.Evidence.{Evidence}
use Rattle.xfs_rename.specs.xfs_rebuild.Refusals.{IsRefused}
use Rattle.xfs_rename.specs.xfs_rebuild.declared.faults.RebuildFault.TheVariants as faults
use Rattle.xfs_rename.specs.xfs_rebuild.declared.names_due.NamesDue.{NamesDue}
use Rattle.xfs_rename.specs.xfs_rebuild.declared.planning.Rebuilt.{Rebuilt}
use Rattle.xfs_rename.specs.Renames.{renamed_wanted}
use Rattle.xfs_mend.specs.Due.{IsOwed}
use Rattle.xfs_mend.specs.Private.Rebuilds.{IsDueRenaming, IsRenamedPlan, LeavesOfRebuilt}
use Rattle.xfs_mend.specs.Rebuilding.{IsDueRebuild, IsNamesDue, IsRepairPlan, IsRenamedDue}
use Rattle.xfs_mend.specs.declared.outcome.Outcome.{Outcome}
use Rattle.xfs_mend.specs.declared.outcome.Outcome.TheVariants.{NoGeometry, Unsupported, DirtyLog, TooLarge, UnsupportedFile, Clean, Damaged, Repaired, NoRoom, ReadFault, WriteFault, NoMemory}
use Rattle.xfs_mend.specs.declared.outcome.Summary.TheVariants.{Backups, Rebuilt as Anew}

-- where names have to change, what is refused says what is known
pub are_names : (g : Geometry) (s : Stamp) (image : Image) (e : Evidence) (n : NamesDue) → IsEvidence g image e → IsRefused g s e (faults.Names n) → IsNamesDue g s image n
are_names g s image e n evidence (on, ground, named, due, found) =
    record { on = on; ground = record { e = e; evidence = evidence; ground = ground }; named = named; due = due }

-- a plan with these names is one of the evidence
pub renamed_plan : (g : Geometry) (sector : List ℕ) (s : Stamp) (image : Image) (e : Evidence) (n : NamesDue) (r : Rebuilt) (orphans : ℕ) → IsRefused g s e (faults.Names n)
    → IsRenamedPlan g sector s image n r orphans → IsRepairPlan g sector s image e r orphans
renamed_plan g sector s image e n r orphans (on, ground, named, due, found) is =
    inr (record { on = on; ground = ground; named = named; n = n; due = due; renamed = is })

-- where it is planned it is due, and all finds room
renamed_due : (g : Geometry) (sector : List ℕ) (s : Stamp) (image : Image) (n : NamesDue) (r : Rebuilt) (kept cleared orphans lost : ℕ)
    → IsRenamedPlan g sector s image n r lost → kept ≡ r.kept → cleared ≡ r.cleared → orphans ≡ lost → IsRenamedDue g n kept cleared orphans
renamed_due g sector s image n r kept cleared orphans lost is same freed put = record {
  found = is.found;
  w = is.w;
  built = is.built;
  names = is.names;
  room = has_room (renamed_wanted g n is.w is.built) is.placed is.stands;
  kept' = same ∙ is.count;
  cleared' = freed ∙ is.freed;
  orphans' = put ∙ is.orphans';
}

-- so it is where it was written, in whole or in part
pub written_renamed : (g : Geometry) (sector : List ℕ) (s : Stamp) (image : Image) (now : Option Image) (n : NamesDue) (r : Rebuilt) (lost : ℕ) (a : Outcome)
    → IsRenamedPlan g sector s image n r lost → LeavesOfRebuilt r lost image now a → IsOwed (IsDueRenaming g n) a
written_renamed g sector s image now n r lost (Repaired (Backups count)) is left = absurd left
written_renamed g sector s image now n r lost (Repaired (Anew blocks kept cleared orphans)) is (holds, counted, same, freed, put) =
    renamed_due g sector s image n r kept cleared orphans lost is same freed put
written_renamed g sector s image now n r lost (WriteFault blocks) is (most, partly) = (
  Anew (length r.fresh + length r.in_place) r.kept r.cleared lost,
  most,
  renamed_due g sector s image n r r.kept r.cleared lost lost is refl refl refl,
)
written_renamed g sector s image now n r lost NoGeometry is left = absurd left
written_renamed g sector s image now n r lost (Unsupported word bits) is left = absurd left
written_renamed g sector s image now n r lost DirtyLog is left = absurd left
written_renamed g sector s image now n r lost (TooLarge what count) is left = absurd left
written_renamed g sector s image now n r lost (UnsupportedFile ino what) is left = absurd left
written_renamed g sector s image now n r lost Clean is left = absurd left
written_renamed g sector s image now n r lost (Damaged finding) is left = absurd left
written_renamed g sector s image now n r lost (NoRoom what) is left = absurd left
written_renamed g sector s image now n r lost (ReadFault faults) is left = tt
written_renamed g sector s image now n r lost NoMemory is left = tt

-- what is due by the names is due to the image
pub names_due : (g : Geometry) (s : Stamp) (image : Image) (n : NamesDue) (a : Outcome) → IsNamesDue g s image n → IsDueRenaming g n a → IsDueRebuild g s image a
names_due g s image n (Repaired (Backups count)) names due = due
names_due g s image n (Repaired (Anew blocks kept cleared orphans)) names due = inr (n, names, due)
names_due g s image n (NoRoom what) names due = inr (n, names, due)
names_due g s image n NoGeometry names due = due
names_due g s image n (Unsupported word bits) names due = due
names_due g s image n DirtyLog names due = due
names_due g s image n (TooLarge what count) names due = due
names_due g s image n (UnsupportedFile ino what) names due = due
names_due g s image n Clean names due = due
names_due g s image n (Damaged finding) names due = due
names_due g s image n (ReadFault faults) names due = due
names_due g s image n (WriteFault blocks) names due = due
names_due g s image n NoMemory names due = due
