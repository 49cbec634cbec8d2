-- A protected file of an image is_kept_file among what is kept of its evidence.
use Rattle.std.proofs.Common.{◌≡◌, ℕ, true, ◌==◌, ◌&&◌, inl, List, refl, sym, ◌∙◌, ap, ap₂, subst}
use Rattle.std.proofs.lemmas.Bool.{and_from, eqb-true}
use Rattle.xfs_disk.specs.Lists.{is_among}
use Rattle.xfs_disk.specs.Blocks.{Image}
use Rattle.xfs_geom.specs.Volumes.{Volume, volume_of}
use Rattle.xfs_geom.specs.declared.geometry.Geometry.{Geometry}
use Rattle.xfs_inode.specs.declared.files.FileRead.{FileRead}
use Rattle.xfs_inode.specs.declared.files.FileRead.TheVariants as Reads
use Rattle.xfs_volume.specs.declared.clusters.ClusterRec.{ClusterRec}
use Rattle.xfs_volume.specs.declared.files.FileRec.{FileRec}
use Rattle.xfs_claims.specs.Keeping.{Holding, kept_of}
use Rattle.xfs_image.specs.Candidates.{candidates}
use Rattle.xfs_image.specs.Claims.{candidate_files, candidate_inodes, file_if}
use Rattle.xfs_image.specs.Clusters.{cluster_of}
use Rattle.xfs_image.specs.Keeping.{Protected}
use Rattle.xfs_image.specs.Slots.{reads_as}
use Rattle.xfs_made.proofs.xfs_views.Files.{file_sound}
use Rattle.xfs_made.specs.xfs_views.Claimed.{claims_in, image_claims}
use Rattle.xfs_made.specs.xfs_views.Standing.{stands}
use Rattle.xfs_made.proofs.xfs_views.Images.{protected_kept}
use Rattle.xfs_made.proofs.xfs_views.Members.{Member, any_member, member_filter, member_flat}
use Rattle.xfs_made.proofs.xfs_views.Taken.{protected_stands}
use Rattle.xfs_request.specs.xfs_salvage.Kept.{claims_held, kept_clusters, kept_files, is_kept_file}

-- what is held of the claims of an image
held_is : (v : Volume) (image : Image) → claims_held v (candidates v image) (candidate_files v image) ≡ kept_of (image_claims v image)
unfolding claims_held
held_is v image = refl

among_candidates : (v : Volume) (image : Image) (ino : ℕ) (is : Protected v image ino) → Member is.file (candidate_files v image)
unfolding candidate_files
among_candidates v image ino is =
    let one = any_member (λ other. other == ino) (candidate_inodes v image) is.candidate in
    let inode : Member ino (candidate_inodes v image) = subst (λ (n : ℕ). Member n (candidate_inodes v image)) (eqb-true one.0 ino one.2) one.1 in
    member_flat (λ other. file_if (reads_as v image other)) ino is.file (candidate_inodes v image) inode
    (subst (λ (read : FileRead). Member is.file (file_if read)) (sym is.reads) (inl refl))

pub protected_stays : (g : Geometry) (image : Image) (ino : ℕ) (is : Protected (volume_of g) image ino)
    → Member is.file (kept_files (volume_of g) (candidates (volume_of g) image) (candidate_files (volume_of g) image))
unfolding kept_files
protected_stays g image ino is =
    let v : Volume = volume_of g in
    let number : is.file.ino ≡ ino = (file_sound v image ino is.file is.reads).keeps.number in
    let kept : is_among (kept_of (image_claims v image)).files is.file.ino ≡ true =
    subst (λ (n : ℕ). is_among (kept_of (image_claims v image)).files n ≡ true) (sym number) (protected_kept g image ino is).file in
    let held : is_among (claims_held v (candidates v image) (candidate_files v image)).files is.file.ino ≡ true =
    subst (λ (h : Holding). is_among h.files is.file.ino ≡ true) (sym (held_is v image)) kept in
    member_filter (is_kept_file v (candidates v image) (candidate_files v image)) is.file (candidate_files v image) (among_candidates v image ino is)
    (and_from (is_among (claims_held v (candidates v image) (candidate_files v image)).files is.file.ino) (stands v.rootino is.file) held (protected_stands v image ino is))

pub protected_cluster : (g : Geometry) (image : Image) (ino : ℕ) → Protected (volume_of g) image ino
    → is_among (kept_clusters (volume_of g) (candidates (volume_of g) image) (candidate_files (volume_of g) image)) (cluster_of (volume_of g) ino) ≡ true
protected_cluster g image ino is =
    let v : Volume = volume_of g in
    subst (λ (h : Holding). is_among h.clusters (cluster_of v ino) ≡ true) (sym (held_is v image)) (protected_kept g image ino is).cluster
