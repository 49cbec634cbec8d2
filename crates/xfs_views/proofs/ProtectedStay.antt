-- Protected files are kept where backup superblocks alone differ.
use Rattle.std.proofs.Common.{◌≡◌, ℕ, true, ◌==◌, sym, ◌∙◌, subst}
use Rattle.std.proofs.lemmas.Bool.{eqb-true, false≢true}
use Rattle.xfs_disk.specs.Blocks.{Image}
use Rattle.xfs_geom.specs.Volumes.{Volume, volume_of}
use Rattle.xfs_geom.specs.declared.geometry.Geometry.{Geometry}
use Rattle.xfs_image.specs.Claims.{AreDisjointSets, candidate_inodes, is_candidate_inode, is_of_cluster}
use Rattle.xfs_image.specs.Clusters.{cluster_of}
use Rattle.xfs_image.specs.Keeping.{Keeps, Protected}
use Rattle.xfs_geom.specs.Conversions.{is_fixed}
use Rattle.xfs_views.proofs.Images.{candidate_has, inode_cluster}
use Rattle.xfs_views.proofs.Members.{Member, any_member}
use Rattle.xfs_views.specs.Backups.{DifferInBackups}
use Rattle.xfs_views.proofs.FilesStay.{file_kept}
use Rattle.xfs_views.proofs.SlotsStay.{slot_stays}
use Rattle.xfs_views.proofs.Unfixed.{unfixed_same}

inode_among : (v : Volume) (image : Image) (ino : ℕ) → is_candidate_inode v image ino ≡ true → Member ino (candidate_inodes v image)
inode_among v image ino candidate =
    let one = any_member (λ other. other == ino) (candidate_inodes v image) candidate in
    subst (λ (n : ℕ). Member n (candidate_inodes v image)) (eqb-true one.0 ino one.2) one.1

pub protected_stay : (g : Geometry) (image now : Image) (ino : ℕ) → DifferInBackups (volume_of g) image now → Protected (volume_of g) image ino → Keeps (volume_of g) image now ino
protected_stay g image now ino differ is =
    let v : Volume = volume_of g in
    let of = candidate_has g image ino (inode_among v image ino is.candidate) in
    let own : cluster_of v ino ≡ of.cluster.block = inode_cluster g of.cluster.block ino of.placed of.has in
    let apart : AreDisjointSets (is_of_cluster of.cluster.block) (is_fixed v) = subst (λ (x : ℕ). AreDisjointSets (is_of_cluster x) (is_fixed v)) own is.cluster_unfixed in
    let slot = slot_stays g image now of.cluster.block ino of.placed of.has
    (λ block on. unfixed_same g image now differ block (λ fixed. false≢true (sym (apart block on) ∙ fixed))) in
    file_kept v image now ino is.file slot (λ block claimed. unfixed_same g image now differ block (λ fixed. false≢true (sym (is.unfixed block claimed) ∙ fixed))) is.reads
