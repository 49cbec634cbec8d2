-- What claims blocks in an image, as what is kept is chosen from it: the fixed blocks, the candidate clusters, the candidate files.
use Rattle.std.specs.Prelude.{◌≡◌, ◌≢◌, ℕ, true, false, ◌+◌, List, map}
use Rattle.xfs_kinds.specs.FixedRuns.{fixed_runs}
use Rattle.xfs_disk.specs.Blocks.{Image}
use Rattle.xfs_geom.specs.Conversions.{is_fixed}
use Rattle.xfs_geom.specs.Volumes.{Volume}
use Rattle.xfs_geom.specs.declared.records.Run.{Run}
use Rattle.xfs_inode.specs.declared.files.FileRead.TheVariants as Reads
use Rattle.xfs_volume.specs.Names.{is_directory}
use Rattle.xfs_volume.specs.declared.clusters.ClusterRec.{ClusterRec}
use Rattle.xfs_volume.specs.declared.files.FileRec.{FileRec}
use Rattle.xfs_laws.specs.xfs_space.Owners.{file_runs}
use Rattle.xfs_claims.specs.declared.claimants.Claims.{Claims}
use Rattle.xfs_claims.specs.declared.claimants.FileClaim.{FileClaim}
use Rattle.xfs_image.specs.Candidates.{candidates}
use Rattle.xfs_image.specs.Claims.{candidate_files, is_candidate_inode}
use Rattle.xfs_image.specs.Clusters.{cluster_of, root_cluster}
use Rattle.xfs_image.specs.Slots.{reads_as}
use Rattle.xfs_views.specs.Guarded.{IsGuarded}

-- a file claims the blocks of its data, of its attributes and of its tree of extents; it stands and falls with its cluster
abbrev pub file_claim : Volume → FileRec → FileClaim
file_claim v f = record { ino = f.ino; cluster = cluster_of v f.ino; runs = file_runs v f }

-- what these clusters and files of a volume claim
abbrev pub claims_in : Volume → List ClusterRec → List FileRec → Claims
claims_in v clusters files = record { root = root_cluster v; fixed = fixed_runs v; clusters = clusters; files = map (file_claim v) files }

-- the claims of the candidate files of an image, and all its claims
abbrev pub file_claims : Volume → Image → List FileClaim
file_claims v image = map (file_claim v) (candidate_files v image)

abbrev pub image_claims : Volume → Image → Claims
image_claims v image = claims_in v (candidates v image) (candidate_files v image)

-- a protected file by the lists of claims: a candidate that reads whole, is no directory, neither the root nor one of the two system
-- inodes behind it, and that nothing else that claims blocks can take anything from
pub record IsGuardedFile (v : Volume) (image : Image) (ino : ℕ) : Type 0 where
  pub file : FileRec
  pub candidate : is_candidate_inode v image ino ≡ true
  pub reads : reads_as v image ino ≡ Reads.File file
  pub no_directory : is_directory file ≡ false
  pub no_root : ino ≢ v.rootino
  pub no_bitmap : ino ≢ v.rootino + 1
  pub no_summary : ino ≢ v.rootino + 2
  pub guarded : IsGuarded (is_fixed v) (candidates v image) (file_claims v image) (file_claim v file)
