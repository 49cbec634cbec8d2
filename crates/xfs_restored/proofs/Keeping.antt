-- A protected file is kept through a rebuild: with the same bytes, attributes, target and device, and the same core but for what may change.
use Rattle.std.proofs.Common.{◌≡◌, ℕ, Bool, ◌==◌, List, refl, sym, ap, ◌∙◌, subst, false}
use Rattle.std.proofs.lemmas.Bool.{eqb-true}
use Rattle.xfs_disk.specs.Blocks.{Image}
use Rattle.xfs_disk.specs.declared.stamp.Stamp.{Stamp}
use Rattle.xfs_geom.specs.Volumes.{Volume, volume_of}
use Rattle.xfs_geom.specs.declared.geometry.Geometry.{Geometry}
use Rattle.xfs_image.specs.Claims.{candidate_inodes}
use Rattle.xfs_image.specs.Keeping.{Keeps, Protected, file_bytes, lasting}
use Rattle.xfs_image.specs.Slots.{reads_as}
use Rattle.xfs_volume.specs.declared.files.FileRec.{FileRec}
use Rattle.xfs_rename.specs.xfs_scan.Evidence.{IsEvidence}
use Rattle.xfs_rename.specs.xfs_scan.declared.evidence.Evidence.{Evidence}
use Rattle.xfs_views.proofs.FilesStay as FilesStay
use Rattle.xfs_rename.proofs.xfs_made.Protected.{protected_stays}
use Rattle.xfs_views.proofs.Members.{Member, any_member}
use Rattle.xfs_views.proofs.Files.{file_sound}
use Rattle.xfs_rename.specs.xfs_request.Slots.{is_bare, links_due, own_blocks, state_at}
use Rattle.xfs_rename.specs.xfs_rebuild.Rebuilds.{Ground, IsRebuildOf}
use Rattle.xfs_rename.specs.xfs_rebuild.declared.planning.Rebuilt.{Rebuilt}
use Rattle.xfs_restored.specs.Rewriting.{IsRewritten}
use Rattle.xfs_restored.proofs.Staying.{files_of_image, protected_claims}
use Rattle.xfs_restored.specs.DueFiles.{due_core, due_file, stated_crc}
use Rattle.xfs_restored.specs.Kept.{HasKept, state_read}
use Rattle.xfs_restored.proofs.RereadSlots.{kept_file_reads, state_known}
use Rattle.xfs_restored.proofs.Handed.{has_kept}

module _ (g : Geometry) (sector : List ℕ) (s : Stamp) (image now : Image) (e : Evidence) (r : Rebuilt) (told : IsEvidence g image e)
    (is : IsRebuildOf g sector s image e r) (new : IsRewritten g r image now) (ino : ℕ) (safe : Protected (volume_of g) image ino) where
  abbrev v : Volume
  v = volume_of g

  abbrev on : Ground
  on = is.on

  abbrev f : FileRec
  f = safe.file

  abbrev crc : ℕ → ℕ
  crc = stated_crc v now

  abbrev due : FileRec
  due = due_file g.rootino on.kept on.seen crc f

  has : HasKept g s image now on.kept on.seen
  has = has_kept g sector s image now e r told is new

  number : f.ino ≡ ino
  number = (file_sound v image ino f safe.reads).keeps.number

  among : Member f on.kept.files
  among = subst (λ (fs : List FileRec). Member f fs) (sym (files_of_image g sector s image e r told is)) (protected_stays g image ino safe)

  candidate : Member f.ino (candidate_inodes v image)
  candidate =
      let found = any_member (λ other. other == ino) (candidate_inodes v image) safe.candidate in
      subst (λ (n : ℕ). Member n (candidate_inodes v image)) (eqb-true found.0 ino found.2 ∙ sym number) found.1

  -- its attributes read
  with_attributes : is_bare (state_at on.seen f.ino) ≡ false
  with_attributes =
      ap is_bare (state_known g s image now on.kept on.seen has f.ino candidate ∙ ap state_read (ap (reads_as v image) number ∙ safe.reads))

  same_bytes : file_bytes v now due ≡ file_bytes v now f
  unfolding file_bytes
  same_bytes = refl

  same_core : lasting due.core ≡ lasting f.core
  same_core =
      ap (λ (bare : Bool). lasting (due_core bare (own_blocks f) (links_due g.rootino on.kept.files on.kept.entries f) (crc f.ino) f.core)) with_attributes

  pub file_kept : Keeps (volume_of g) image now ino
  file_kept = record {
    file = f;
    kept = due;
    reads = safe.reads;
    reads_still = ap (reads_as v now) (sym number) ∙ kept_file_reads g s image now on.kept on.seen has f among;
    bytes = same_bytes ∙ FilesStay.bytes_stay v image now f (protected_claims g sector s image now e r told is new ino safe);
    attrs = refl;
    target = refl;
    device = refl;
    core = same_core;
  }
