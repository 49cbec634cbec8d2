-- A rebuilt image is consistent, its protected files are kept, and a further repair writes nothing.
use Rattle.std.proofs.Common.{◌≡◌, ℕ, ◌+◌, inl, inr, List, length, Option, Some, refl}
use Rattle.xfs_disk.specs.Blocks.{Image}
use Rattle.xfs_disk.specs.declared.stamp.Stamp.{Stamp}
use Rattle.xfs_geom.specs.Volumes.{volume_of}
use Rattle.xfs_geom.specs.declared.geometry.Geometry.{Geometry}
use Rattle.xfs_laws.specs.Lawful.{broken_law}
use Rattle.xfs_image.specs.Consistent.{IsConsistent}
use Rattle.xfs_image.specs.Keeping.{Keeps, Protected}
use Rattle.xfs_rename.specs.xfs_rebuild.declared.planning.Rebuilt.{Rebuilt}
use Rattle.xfs_restored.proofs.Relinked.{consistent_renamed, ground_found, kept_renamed, names_wanted}
use Rattle.xfs_restored.specs.Relinking.{IsRelinked}
use Rattle.xfs_rename.specs.declared.planning.Renamed.{Renamed}
use Rattle.xfs_restored.specs.Rewriting.{IsRewritten}
use Rattle.xfs_restored.proofs.Keeping.{file_kept}
use Rattle.xfs_restored.proofs.Restored.{consistent, names_kept}
use Rattle.xfs_restored.proofs.Sizes.{elected_fits}
use Rattle.xfs_scan.specs.Evidence.{IsEvidence}
use Rattle.xfs_scan.specs.declared.evidence.Evidence.{Evidence}
use Rattle.xfs_mend.proofs.Again.{stays_quiet}
use Rattle.xfs_mend.specs.Outcome.{IsRebuilt}
use Rattle.xfs_mend.specs.Rebuilding.{HasPlannedNames, IsPlannedRebuild, IsRenamingOf, IsRepairPlan, rebuild_writes}
use Rattle.xfs_writing.specs.Writing.{written}

-- a plan in which names change, written into the image
abbrev renaming : Rebuilt → ℕ → Renamed
renaming r orphans = record { rebuilt = r; orphans = orphans }

module _ (g : Geometry) (sector : List ℕ) (s : Stamp) (image now : Image) (e : Evidence) (r : Rebuilt) (orphans : ℕ) (told : IsEvidence g image e) (new : IsRewritten g r image now) where
  relinked : (is : IsRenamingOf g sector s image e r orphans) → IsRelinked g sector s image now e is.n (renaming r orphans)
  relinked is = record {
    evidence = told;
    on = is.on;
    ground = is.ground;
    change = is.named;
    due = is.due;
    found = ground_found g image e is.on told is.ground;
    is = is.renamed;
    new = new;
  }

  -- so what was planned is consistent and keeps what was protected, whether names change or not
  plan_consistent : IsRepairPlan g sector s image e r orphans → IsConsistent broken_law g now
  plan_consistent (inl is) = consistent g sector s image now e r told is.0 new
  plan_consistent (inr is) = consistent_renamed g sector s image now e is.n (renaming r orphans) (relinked is)

  plan_keeps : IsRepairPlan g sector s image e r orphans → (ino : ℕ) → Protected (volume_of g) image ino → Keeps (volume_of g) image now ino
  plan_keeps (inl is) ino safe = file_kept g sector s image now e r told is.0 new ino safe
  plan_keeps (inr is) ino safe = kept_renamed g sector s image now e is.n (renaming r orphans) (relinked is) ino safe

  plan_names : (is : IsRepairPlan g sector s image e r orphans) → HasPlannedNames g sector s image now e r orphans is
  unfolding relinked
  plan_names (inl is) = names_kept g sector s image now e r told is.0 new
  plan_names (inr is) = names_wanted g sector s image now e is.n (renaming r orphans) (relinked is)

rewritten : (s : Stamp) (image : Image) (r : Rebuilt) (orphans : ℕ) (plan : IsPlannedRebuild s image r orphans)
    → IsRewritten plan.has.geometry r image (written (rebuild_writes r) image)
rewritten s image r orphans plan = record { enough = elected_fits plan.has.geometry image plan.has.elected; is = refl }

consistent_anew : (s : Stamp) (image : Image) (r : Rebuilt) (orphans : ℕ) (plan : IsPlannedRebuild s image r orphans)
    → IsConsistent broken_law plan.has.geometry (written (rebuild_writes r) image)
consistent_anew s image r orphans plan =
    plan_consistent plan.has.geometry plan.has.elected.vote.sector s image (written (rebuild_writes r) image) plan.e r orphans plan.evidence (rewritten s image r orphans plan)
    plan.is

kept_anew : (s : Stamp) (image : Image) (r : Rebuilt) (orphans : ℕ) (plan : IsPlannedRebuild s image r orphans) → (ino : ℕ)
    → Protected (volume_of plan.has.geometry) image ino → Keeps (volume_of plan.has.geometry) image (written (rebuild_writes r) image) ino
kept_anew s image r orphans plan ino safe =
    plan_keeps plan.has.geometry plan.has.elected.vote.sector s image (written (rebuild_writes r) image) plan.e r orphans plan.evidence (rewritten s image r orphans plan) plan.is
    ino safe

named_anew : (s : Stamp) (image : Image) (r : Rebuilt) (orphans : ℕ) (plan : IsPlannedRebuild s image r orphans)
    → HasPlannedNames plan.has.geometry plan.has.elected.vote.sector s image (written (rebuild_writes r) image) plan.e r orphans plan.is
named_anew s image r orphans plan =
    plan_names plan.has.geometry plan.has.elected.vote.sector s image (written (rebuild_writes r) image) plan.e r orphans plan.evidence (rewritten s image r orphans plan) plan.is

pub is_rebuilt : (s : Stamp) (image : Image) (now : Option Image) (r : Rebuilt) (blocks kept cleared orphans : ℕ) → IsPlannedRebuild s image r orphans
    → now ≡ Some (written (rebuild_writes r) image) → blocks ≡ length r.fresh + length r.in_place → kept ≡ r.kept → cleared ≡ r.cleared
    → IsRebuilt s image now blocks kept cleared orphans
is_rebuilt s image now r blocks kept cleared orphans plan holds counted same freed = record {
  r = r;
  plan = plan;
  is = holds;
  counted = counted;
  kept' = same;
  cleared' = freed;
  consistent = consistent_anew s image r orphans plan;
  keeps = λ ino safe. kept_anew s image r orphans plan ino safe;
  names = named_anew s image r orphans plan;
  stays = λ o t outcome due. stays_quiet o t plan.has.geometry (written (rebuild_writes r) image) outcome (consistent_anew s image r orphans plan) due;
}
