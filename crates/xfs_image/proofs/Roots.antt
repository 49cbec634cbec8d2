-- The clusters that the trees of a group name, and that of the root.
use Rattle.std.proofs.Common.{◌≡◌, ℕ, true, Some, refl}
use Rattle.std.proofs.lemmas.Bool.{eq-eqb}
use Rattle.xfs_disk.specs.Blocks.{Image}
use Rattle.xfs_geom.specs.Volumes.{Volume}
use Rattle.xfs_volume.specs.declared.groups.GroupRec.{GroupRec}
use Rattle.xfs_image.specs.Candidates.{is_candidate}
use Rattle.xfs_image.specs.Clusters.{chunk_clusters, given_clusters, is_recorded, named_by_chunks, named_by_owners, root_cluster}
use Rattle.xfs_image.specs.GroupParts.{IsGroupRead}

pub root_recorded : (v : Volume) (image : Image) → is_recorded v image (root_cluster v) ≡ true
unfolding is_recorded
root_recorded v image = rw (eq-eqb (root_cluster v) (root_cluster v) refl) refl

pub root_candidate : (v : Volume) (image : Image) → is_candidate v image (root_cluster v) ≡ true
unfolding is_candidate
root_candidate v image = rw (eq-eqb (root_cluster v) (root_cluster v) refl) refl

pub chunks_name : (v : Volume) (image : Image) (ag : ℕ) (g : GroupRec) → IsGroupRead v image ag g → named_by_chunks v image ag ≡ Some (chunk_clusters v ag g.ino)
unfolding named_by_chunks
chunks_name v image ag g is = rw (is.agi, is.ino) refl

pub owners_name : (v : Volume) (image : Image) (ag : ℕ) (g : GroupRec) → IsGroupRead v image ag g → named_by_owners v image ag ≡ Some (given_clusters v ag g.rmap)
unfolding named_by_owners
owners_name v image ag g is = rw (is.agf, is.rmap) refl
