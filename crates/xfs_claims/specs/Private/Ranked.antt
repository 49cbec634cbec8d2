-- Claims in the order of their rank, as the program holds them.
use Rattle.std.specs.Prelude.{ℕ, ◌≡◌, ◌+◌, ◌*◌, List, map, length}
use Rattle.std.specs.List.{All, sum_by}
use Rattle.xfs_claims.specs.declared.claimants.FileClaim.{FileClaim}
use Rattle.xfs_claims.specs.declared.claimants.Claims.{Claims}
use Rattle.xfs_claims.specs.declared.ranks.Ranks.{Ranks}
use Rattle.xfs_claims.specs.Keeping.{Holding, with_cluster, with_clusters, with_files}
use Rattle.xfs_claims.specs.Ranks.{recorded_clusters, scanned_clusters, recorded_files, scanned_files, run_count}
use Rattle.xfs_claims.specs.Private.Places.{file_at_place, IsFilePlace}

-- the claims behind the root's cluster, in the order of their rank
pub record AreRanked (claims : Claims) (ranks : Ranks) : Type 0 where
  pub recorded : ranks.recorded.items ≡ recorded_clusters claims
  pub scanned : ranks.scanned.items ≡ scanned_clusters claims
  pub in_recorded : map (file_at_place claims.files) ranks.files.recorded.items ≡ recorded_files claims
  pub in_scanned : map (file_at_place claims.files) ranks.files.scanned.items ≡ scanned_files claims
  pub recorded_places : All (IsFilePlace claims.files) ranks.files.recorded.items
  pub scanned_places : All (IsFilePlace claims.files) ranks.files.scanned.items

-- clusters, and then files
abbrev pub with_both : Holding → List ℕ → List FileClaim → Holding
with_both held clusters files = with_files (with_clusters held clusters) files

-- what is kept of the claims, where something is held before
abbrev pub kept_from : Holding → Claims → Holding
kept_from held claims =
    with_both (with_both (with_cluster held claims.root) (recorded_clusters claims) (recorded_files claims)) (scanned_clusters claims) (scanned_files claims)

-- how many steps at most are counted for clusters and files
abbrev pub due_steps : List ℕ → List FileClaim → ℕ
due_steps clusters files = 2 * (length clusters + sum_by run_count files)

-- and for all clusters and files of the claims
abbrev pub rank_steps : Claims → ℕ
rank_steps claims = 2 + due_steps (recorded_clusters claims) (recorded_files claims) + due_steps (scanned_clusters claims) (scanned_files claims)
