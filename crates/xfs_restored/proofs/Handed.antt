-- An image in which a rebuild was written has what is kept of the first one.
use Rattle.std.proofs.Common.{◌≡◌, ℕ, List, ◌∙◌}
use Rattle.std.specs.List.{Contains}
use Rattle.xfs_disk.specs.Blocks.{Image}
use Rattle.xfs_disk.specs.declared.stamp.Stamp.{Stamp}
use Rattle.xfs_geom.specs.Volumes.{volume_of}
use Rattle.xfs_geom.specs.declared.geometry.Geometry.{Geometry}
use Rattle.xfs_image.specs.Candidates.{candidates}
use Rattle.xfs_image.specs.Claims.{candidate_files}
use Rattle.xfs_image.specs.Directories.{dirs_read, entries_read}
use Rattle.xfs_image.specs.Slots.{slot_bytes}
use Rattle.xfs_render.specs.Slots.{IsSlotDue}
use Rattle.xfs_rename.specs.xfs_scan.Evidence.{IsEvidence}
use Rattle.xfs_rename.specs.xfs_scan.declared.evidence.Evidence.{Evidence}
use Rattle.xfs_salvage.specs.Kept.{entries_of_kept, fresh_inodes, kept_clusters, kept_dirs, kept_files}
use Rattle.xfs_rename.specs.xfs_made.Handed.{IsKeptOf}
use Rattle.xfs_rename.specs.xfs_rebuild.Rebuilds.{Ground, IsGround, IsRebuildOf, slots_asked}
use Rattle.xfs_rename.specs.xfs_rebuild.declared.planning.Rebuilt.{Rebuilt}
use Rattle.xfs_restored.specs.Rewriting.{IsRewritten}
use Rattle.xfs_restored.proofs.SlotsDue.{slots_due}
use Rattle.xfs_restored.proofs.Staying.{claims_stay}
use Rattle.xfs_restored.specs.DueFiles.{kept_inodes}
use Rattle.xfs_restored.specs.Kept.{HasKept}
use Rattle.xfs_restored.proofs.Known.{evidence_known}

-- what is kept of an evidence is kept of the image
module _ (g : Geometry) (image : Image) (e : Evidence) (on : Ground) (told : IsEvidence g image e) (base : IsGround (volume_of g) e on) where
  pub kept_of_image : IsKeptOf (volume_of g) (candidates (volume_of g) image) (candidate_files (volume_of g) image) on.kept
  kept_of_image = record {
    clusters' = base.kept'.clusters' ∙ (λ i. kept_clusters (volume_of g) (told.clusters i) (told.files i));
    files' = base.kept'.files' ∙ (λ i. kept_files (volume_of g) (told.clusters i) (told.files i));
    fresh' = base.kept'.fresh' ∙ (λ i. fresh_inodes (volume_of g) (told.clusters i) (told.files i));
  }

  pub entries_of_image : on.kept.entries
      ≡ entries_of_kept (volume_of g) (candidates (volume_of g) image) (candidate_files (volume_of g) image) (entries_read (volume_of g) image (candidate_files (volume_of g) image))
  entries_of_image = base.kept'.entries' ∙ (λ i. entries_of_kept (volume_of g) (told.clusters i) (told.files i) (told.entries i))

  pub dirs_of_image : on.kept.dirs
      ≡ kept_dirs (volume_of g) (candidates (volume_of g) image) (candidate_files (volume_of g) image) (dirs_read (volume_of g) image (candidate_files (volume_of g) image))
  dirs_of_image = base.kept'.dirs' ∙ (λ i. kept_dirs (volume_of g) (told.clusters i) (told.files i) (told.dirs i))

module _ (g : Geometry) (sector : List ℕ) (s : Stamp) (image now : Image) (e : Evidence) (r : Rebuilt) (told : IsEvidence g image e)
    (is : IsRebuildOf g sector s image e r) (new : IsRewritten g r image now) where
  slots_as_due : (ino : ℕ) → Contains (kept_inodes (volume_of g) is.on.kept) ino
      → IsSlotDue (volume_of g) s.generation (slots_asked g s is.on) ino (slot_bytes (volume_of g) image ino) (slot_bytes (volume_of g) now ino)
  unfolding kept_inodes
  slots_as_due = slots_due g sector s image now is.on r is.planned new

  pub has_kept : HasKept g s image now is.on.kept is.on.seen
  has_kept = record {
    of = kept_of_image g image e is.on told is.ground;
    seen' = is.ground.seen' ∙ evidence_known g image e told;
    slots = slots_as_due;
    claims = claims_stay g sector s image now is.on r is.planned new;
  }
