-- When no other claim can be had on what a file claims, by the lists of claims alone.
use Rattle.std.specs.Prelude.{ℕ, Bool, not, ◌==◌, ◌&&◌, List}
use Rattle.std.specs.List.{list_any}
use Rattle.xfs_collections.specs.Blocks.{is_in}
use Rattle.xfs_volume.specs.declared.clusters.ClusterRec.{ClusterRec}
use Rattle.xfs_claims.specs.Spans.{spans_of}
use Rattle.xfs_claims.specs.declared.claimants.FileClaim.{FileClaim}
use Rattle.xfs_image.specs.Claims.{AreDisjointSets, is_of_cluster}

-- the file claims the block
abbrev pub claimed_by : FileClaim → ℕ → Bool
claimed_by file block = is_in (spans_of file.runs) block

-- one of the files claims the block, and one of another number than this does
abbrev pub has_claim : List FileClaim → ℕ → Bool
has_claim files block = list_any (λ (f : FileClaim). claimed_by f block) files

abbrev pub has_claim_beside : List FileClaim → ℕ → ℕ → Bool
has_claim_beside files ino block = list_any (λ (f : FileClaim). not (f.ino == ino) && claimed_by f block) files

-- the block is of one of the clusters
abbrev pub is_of_any : List ClusterRec → ℕ → Bool
is_of_any clusters block = list_any (λ (c : ClusterRec). is_of_cluster c.block block) clusters

-- a cluster begins at the block
abbrev pub has_cluster : List ClusterRec → ℕ → Bool
has_cluster clusters block = list_any (λ (c : ClusterRec). c.block == block) clusters

-- no block that the file claims is fixed, of a cluster or claimed by another file, and no block of its cluster is fixed or claimed
-- by a file
pub record IsGuarded (fixed : ℕ → Bool) (clusters : List ClusterRec) (files : List FileClaim) (file : FileClaim) : Type 0 where
  pub unfixed : AreDisjointSets (claimed_by file) fixed
  pub outside : AreDisjointSets (claimed_by file) (is_of_any clusters)
  pub alone : AreDisjointSets (claimed_by file) (has_claim_beside files file.ino)
  pub cluster_unfixed : AreDisjointSets (is_of_cluster file.cluster) fixed
  pub cluster_unclaimed : AreDisjointSets (is_of_cluster file.cluster) (has_claim files)
