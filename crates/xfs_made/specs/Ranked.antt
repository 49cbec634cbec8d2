-- What it means that claimants are kept by their rank: clusters and files in one order, each looked at in its turn.
use Rattle.std.specs.Prelude.{◌≡◌, ℕ, Bool, true, false, not, ◌&&◌, ◌||◌, ◌==◌, List, ◌∷◌, ◌++◌, map}
use Rattle.std.specs.List.{list_any}
use Rattle.xfs_disk.specs.Lists.{is_among}
use Rattle.xfs_collections.specs.Blocks.{is_in}
use Rattle.xfs_claims.specs.declared.claimants.Claims.{Claims}
use Rattle.xfs_claims.specs.declared.claimants.FileClaim.{FileClaim}
use Rattle.xfs_claims.specs.Keeping.{Holding, cluster_span}
use Rattle.xfs_claims.specs.Ranks.{recorded_clusters, recorded_files, scanned_clusters, scanned_files}
use Rattle.xfs_claims.specs.Spans.{meets_any, spans_of}

-- a cluster, by its first block, or a file
pub data Claimant : Type 0 where
  Cluster : ℕ → Claimant
  File : FileClaim → Claimant

-- all claimants in the order of their rank: the cluster of the root, the other recorded clusters, the files in recorded clusters, the
-- scanned clusters, the other files
abbrev pub ranked : Claims → List Claimant
ranked claims =
    map Cluster (claims.root ∷ recorded_clusters claims) ++ map File (recorded_files claims)
    ++ map Cluster (scanned_clusters claims) ++ map File (scanned_files claims)

-- the blocks that a claimant claims
abbrev pub spans_claimed : Claimant → List (ℕ × ℕ)
spans_claimed (Cluster block) = cluster_span block
spans_claimed (File file) = spans_of file.runs

-- the claimant is kept
abbrev pub is_held : Holding → Claimant → Bool
is_held held (Cluster block) = is_among held.clusters block
is_held held (File file) = is_among held.files file.ino

-- the claimant is the cluster that begins at a block
abbrev pub is_cluster_at : ℕ → Claimant → Bool
is_cluster_at block (Cluster first) = first == block
is_cluster_at block (File file) = false

-- a file lies in one of the kept clusters among some claimants; a cluster lies in none
abbrev pub lies_in_kept : (Claimant → Bool) → List Claimant → Claimant → Bool
lies_in_kept kept before (Cluster block) = true
lies_in_kept kept before (File file) = list_any (λ x. kept x && is_cluster_at file.cluster x) before

-- the block is fixed, or one of the kept claimants among some claims it
abbrev pub is_kept_block : (ℕ → Bool) → (Claimant → Bool) → List Claimant → ℕ → Bool
is_kept_block fixed kept before block = fixed block || list_any (λ x. kept x && is_in (spans_claimed x) block) before

-- a claimant is kept just where none of its blocks is fixed or of a kept one of a higher rank, and, for a file, its cluster is a kept
-- one of a higher rank
pub record AreKeptByRank (fixed : ℕ → Bool) (claimants : List Claimant) (kept : Claimant → Bool) : Type 0 where
  pub rule : (before after : List Claimant) (x : Claimant) → claimants ≡ before ++ x ∷ after
      → kept x ≡ (lies_in_kept kept before x && not (meets_any (is_kept_block fixed kept before) (spans_claimed x)))
