-- What is kept of claims: in the order of their rank, a cluster is kept where it meets nothing kept before, and a file where its
-- cluster is kept and its blocks meet nothing kept before.
use Rattle.std.specs.Prelude.{ℕ, Bool, not, ◌+◌, ◌^◌, ◌<◌, ◌&&◌, ◌==◌, if◌then◌else◌, nat_lt, List, [], ◌∷◌}
use Rattle.std.specs.List.{All}
use Rattle.xfs_disk.specs.Lists.{is_among, with_number}
use Rattle.xfs_collections.specs.Blocks.{is_in, meets}
use Rattle.xfs_claims.specs.declared.claimants.FileClaim.{FileClaim}
use Rattle.xfs_claims.specs.declared.claimants.Claims.{Claims}
use Rattle.xfs_claims.specs.Spans.{spans_of, SpansApart, IsRun, meets_any, with_blocks}
use Rattle.xfs_claims.specs.Ranks.{recorded_clusters, scanned_clusters, recorded_files, scanned_files}

-- what is kept so far: all blocks of it, the first blocks of the clusters and the numbers of the files, both ascending
pub record Holding : Type 0 where
  pub blocks : ℕ → Bool
  pub clusters : List ℕ
  pub files : List ℕ

-- a cluster has four blocks
abbrev pub cluster_span : ℕ → List (ℕ × ℕ)
cluster_span block = (block, 4) ∷ []

-- a cluster is kept where none of its blocks is of something kept before
abbrev pub with_cluster : Holding → ℕ → Holding
with_cluster held block =
    if meets held.blocks block 4 then held
    else record {
      blocks = with_blocks held.blocks (cluster_span block);
      clusters = with_number block held.clusters;
      files = held.files;
    }

-- a file's cluster is kept, and none of its blocks is of something kept before
abbrev pub is_kept : Holding → FileClaim → Bool
is_kept held file = is_among held.clusters file.cluster && not (meets_any held.blocks (spans_of file.runs))

abbrev pub with_file : Holding → FileClaim → Holding
with_file held file =
    if is_kept held file then record {
      blocks = with_blocks held.blocks (spans_of file.runs);
      clusters = held.clusters;
      files = with_number file.ino held.files;
    }
    else held

-- clusters, one after the other
abbrev pub with_clusters : Holding → List ℕ → Holding
with_clusters held [] = held
with_clusters held (block ∷ rest) = with_clusters (with_cluster held block) rest

-- files, one after the other
abbrev pub with_files : Holding → List FileClaim → Holding
with_files held [] = held
with_files held (file ∷ rest) = with_files (with_file held file) rest

-- nothing but the fixed blocks
abbrev pub fixed_alone : List (ℕ × ℕ) → Holding
fixed_alone fixed = record { blocks = is_in fixed; clusters = []; files = [] }

-- the root cluster first, the other recorded clusters, and the files in recorded ones
abbrev pub recorded_kept : Claims → Holding
recorded_kept claims = with_files (with_clusters (fixed_alone (spans_of claims.fixed)) (claims.root ∷ recorded_clusters claims)) (recorded_files claims)

-- what is kept of the claims: after all that is recorded, the scanned clusters and the files in them
abbrev pub kept_of : Claims → Holding
kept_of claims = with_files (with_clusters (recorded_kept claims) (scanned_clusters claims)) (scanned_files claims)

-- the cluster that begins at the block ends below 2^63
abbrev pub EndsLow : ℕ → Type 0
EndsLow block = block + 4 < 2 ^ 63

-- a file's runs are runs of which no two meet
pub record IsClaim (file : FileClaim) : Type 0 where
  pub runs : All IsRun file.runs
  pub apart : SpansApart (spans_of file.runs)
