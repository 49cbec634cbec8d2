-- When clusters and files that were found in a volume can claim their blocks.
use Rattle.std.specs.Prelude.{◌≡◌, ℕ, true, ◌+◌, ◌^◌, ◌≤◌, ◌<◌, List, [], ◌∷◌}
use Rattle.xfs_geom.specs.Volumes.{Volume}
use Rattle.xfs_volume.specs.declared.clusters.ClusterRec.{ClusterRec}
use Rattle.xfs_volume.specs.declared.files.FileRec.{FileRec}
use Rattle.xfs_views.specs.xfs_space.Owners.{file_runs}
use Rattle.xfs_views.specs.xfs_space.Parts.{HasLawfulForks}
use Rattle.xfs_claims.specs.Ranks.{is_recorded_cluster}
use Rattle.xfs_claims.specs.Spans.{SpansApart, spans_of}
use Rattle.xfs_views.specs.xfs_image.Clusters.{root_cluster}

-- the clusters ascend, no two have a block in common, and they end by a block; the first begins at a block or behind it
abbrev pub AscendWithin : ℕ → ℕ → List ClusterRec → Type 0
AscendWithin top low [] = Unit {0}
AscendWithin top low (c ∷ cs) = (low ≤ c.block) × (c.block + 4 ≤ top) × AscendWithin top (c.block + 4) cs

-- the file has the number of an inode, its extents and their tree lie in the volume, and no block has two uses in it
pub record CanClaim (v : Volume) (f : FileRec) : Type 0 where
  pub number : f.ino < 2 ^ 63
  pub lies : HasLawfulForks v f
  pub apart : SpansApart (spans_of (file_runs v f))

-- the files ascend by number, and each can claim its blocks; the first has a number or a higher one
abbrev pub AscendClaiming : Volume → ℕ → List FileRec → Type 0
AscendClaiming v low [] = Unit {0}
AscendClaiming v low (f ∷ fs) = (low ≤ f.ino) × CanClaim v f × AscendClaiming v (f.ino + 1) fs

-- the clusters lie in the volume in their order, that of the root is a recorded one, and the files stand by number and can claim
pub record CanBeSalvaged (v : Volume) (clusters : List ClusterRec) (files : List FileRec) : Type 0 where
  pub root : is_recorded_cluster clusters (root_cluster v) ≡ true
  pub clusters_lie : AscendWithin v.dblocks 0 clusters
  pub files_claim : AscendClaiming v 0 files
