-- The blocks that kept files claim stay.
use Rattle.std.proofs.Common.{◌≡◌, ℕ, true, false, ◌==◌, List, sym, ap₂, ◌∙◌, subst}
use Rattle.std.specs.List.{All}
use Rattle.std.proofs.lemmas.Bool.{false≢true, ne_eqb}
use Rattle.std.proofs.lemmas.List.Elements.{All-weaker, recursion_from_All}
use Rattle.std.proofs.lemmas.List.Folds.{list_any_none}
use Rattle.xfs_disk.specs.Blocks.{Image}
use Rattle.xfs_disk.specs.declared.stamp.Stamp.{Stamp}
use Rattle.xfs_geom.specs.Volumes.{volume_of}
use Rattle.xfs_geom.specs.declared.geometry.Geometry.{Geometry}
use Rattle.xfs_image.specs.Candidates.{candidates}
use Rattle.xfs_image.specs.Claims.{candidate_files, claims}
use Rattle.xfs_image.specs.Keeping.{Protected, file_bytes}
use Rattle.xfs_volume.specs.declared.clusters.ClusterRec.{ClusterRec}
use Rattle.xfs_volume.specs.declared.files.FileRec.{FileRec}
use Rattle.xfs_place.specs.Pool.{is_listed}
use Rattle.xfs_views.proofs.Members.{Member, member_all}
use Rattle.xfs_render.specs.Plans.{planned}
use Rattle.xfs_rename.specs.xfs_scan.Evidence.{IsEvidence}
use Rattle.xfs_rename.specs.xfs_scan.declared.evidence.Evidence.{Evidence}
use Rattle.xfs_views.proofs.FilesStay as FilesStay
use Rattle.xfs_views.specs.SameFiles.{HasSameClaims}
use Rattle.xfs_salvage.specs.Kept.{kept_files}
use Rattle.xfs_rename.proofs.xfs_made.Protected.{protected_stays}
use Rattle.xfs_rename.specs.xfs_rebuild.Rebuilds.{Ground, IsPlannedOn, IsRebuildOf}
use Rattle.xfs_rename.specs.xfs_rebuild.declared.planning.Rebuilt.{Rebuilt}
use Rattle.xfs_restored.specs.Rewriting.{IsRewritten}
use Rattle.xfs_restored.proofs.Placed.{files_free}
use Rattle.xfs_restored.proofs.Standing.{others_stay}

-- what holds of no number of a list holds of none that is listed
pub off_list : (P : ℕ → Type 0) (xs : List ℕ) (at : ℕ) → All (λ x. P x → ⊥) xs → P at → is_listed xs at ≡ false
unfolding is_listed
off_list P xs at none here =
    list_any_none (λ (x : ℕ). x == at) xs
    (All-weaker (λ x. P x → ⊥) (λ x. (x == at) ≡ false) (λ x off. ne_eqb x at (λ same. off (subst P (sym same) here))) xs none)

module _ (g : Geometry) (sector : List ℕ) (s : Stamp) (image now : Image) (on : Ground) (r : Rebuilt) (is : IsPlannedOn g sector s image on r) (new : IsRewritten g r image now) where
  claim_stays : (f : FileRec) → All (λ block. claims (volume_of g) f block ≡ false) (planned is.planned.plan) → HasSameClaims (volume_of g) image now f
  claim_stays f free block has =
      others_stay g sector s image now on r is new block
      (off_list (λ x. claims (volume_of g) f x ≡ true) (planned is.planned.plan) block
      (All-weaker (λ x. claims (volume_of g) f x ≡ false) (λ x. claims (volume_of g) f x ≡ true → ⊥) (λ x free has. false≢true (sym free ∙ has)) (planned is.planned.plan) free) has)

  pub claims_stay : All (HasSameClaims (volume_of g) image now) on.kept.files
  claims_stay =
      All-weaker (λ (f : FileRec). All (λ block. claims (volume_of g) f block ≡ false) (planned is.planned.plan)) (HasSameClaims (volume_of g) image now) claim_stays on.kept.files
      (files_free g sector s image on r is)

  pub bytes_stay : All (λ (f : FileRec). file_bytes (volume_of g) now f ≡ file_bytes (volume_of g) image f) on.kept.files
  bytes_stay =
      All-weaker (HasSameClaims (volume_of g) image now) (λ (f : FileRec). file_bytes (volume_of g) now f ≡ file_bytes (volume_of g) image f)
      (λ f same. FilesStay.bytes_stay (volume_of g) image now f same) on.kept.files claims_stay

-- the kept files are those of the image
pub files_of_image : (g : Geometry) (sector : List ℕ) (s : Stamp) (image : Image) (e : Evidence) (r : Rebuilt) → IsEvidence g image e → (is : IsRebuildOf g sector s image e r)
    → is.on.kept.files ≡ kept_files (volume_of g) (candidates (volume_of g) image) (candidate_files (volume_of g) image)
files_of_image g sector s image e r evidence is =
    is.ground.kept'.files' ∙ ap₂ (λ (cs : List ClusterRec) (fs : List FileRec). kept_files (volume_of g) cs fs) evidence.clusters evidence.files

pub protected_claims : (g : Geometry) (sector : List ℕ) (s : Stamp) (image now : Image) (e : Evidence) (r : Rebuilt) → IsEvidence g image e
    → IsRebuildOf g sector s image e r → IsRewritten g r image now → (ino : ℕ) (file : Protected (volume_of g) image ino) → HasSameClaims (volume_of g) image now file.file
protected_claims g sector s image now e r evidence is new ino file =
    let among : Member file.file is.on.kept.files =
    subst (λ (fs : List FileRec). Member file.file fs) (sym (files_of_image g sector s image e r evidence is)) (protected_stays g image ino file) in
    member_all (HasSameClaims (volume_of g) image now) file.file is.on.kept.files
    (recursion_from_All (HasSameClaims (volume_of g) image now) is.on.kept.files (claims_stay g sector s image now is.on r is.planned new)) among
