-- The rank of claims: the root cluster, recorded clusters by block, files in them by number, scanned clusters by block, files
-- in them by number.
use Rattle.std.specs.Prelude.{ℕ, Bool, not, false, ◌≡◌, ◌+◌, ◌&&◌, ◌==◌, if◌then◌else◌, nat_lt, List, [], ◌∷◌, map, length}
use Rattle.std.specs.List.{list_any, filter, sum_by}
use Rattle.xfs_volume.specs.declared.clusters.ClusterRec.{ClusterRec}
use Rattle.xfs_claims.specs.declared.claimants.FileClaim.{FileClaim}
use Rattle.xfs_claims.specs.declared.claimants.Claims.{Claims}

-- the items with one more, before the first that has no lower number
abbrev pub placed_by_number : {X : Type 0} → (X → ℕ) → X → List X → List X
placed_by_number number x [] = x ∷ []
placed_by_number number x (y ∷ ys) = if nat_lt (number y) (number x) then y ∷ placed_by_number number x ys else (x ∷ y ∷ ys)

-- the items, ascending by number
abbrev pub by_number : {X : Type 0} → (X → ℕ) → List X → List X
by_number number [] = []
by_number number (x ∷ xs) = placed_by_number number x (by_number number xs)

-- no two items have one number
abbrev pub AreDifferent : {X : Type 0} → (X → ℕ) → List X → Type 0
AreDifferent number [] = Unit {0}
AreDifferent number (x ∷ xs) = (list_any (λ y. number y == number x) xs ≡ false) × AreDifferent number xs

-- a recorded cluster begins at the block
abbrev pub is_recorded_cluster : List ClusterRec → ℕ → Bool
is_recorded_cluster clusters block = list_any (λ c. c.recorded && c.block == block) clusters

abbrev pub first_block : ClusterRec → ℕ
first_block cluster = cluster.block

abbrev pub is_other_recorded : ℕ → ClusterRec → Bool
is_other_recorded root cluster = cluster.recorded && not (cluster.block == root)

abbrev pub is_scanned_cluster : ClusterRec → Bool
is_scanned_cluster cluster = not cluster.recorded

abbrev pub lies_in_recorded : List ClusterRec → FileClaim → Bool
lies_in_recorded clusters file = is_recorded_cluster clusters file.cluster

-- the file lies in no recorded cluster: it lies in a scanned one, or in none and is not kept
abbrev pub lies_in_scanned : List ClusterRec → FileClaim → Bool
lies_in_scanned clusters file = not (is_recorded_cluster clusters file.cluster)

abbrev pub own_number : ℕ → ℕ
own_number n = n

abbrev pub claimed_number : FileClaim → ℕ
claimed_number file = file.ino

-- the first blocks of the recorded clusters but the root's, ascending
abbrev pub recorded_clusters : Claims → List ℕ
recorded_clusters claims = by_number own_number (map first_block (filter (is_other_recorded claims.root) claims.clusters))

-- the first blocks of the scanned clusters, ascending
abbrev pub scanned_clusters : Claims → List ℕ
scanned_clusters claims = by_number own_number (map first_block (filter is_scanned_cluster claims.clusters))

-- the files in recorded clusters, ascending by number
abbrev pub recorded_files : Claims → List FileClaim
recorded_files claims = by_number claimed_number (filter (lies_in_recorded claims.clusters) claims.files)

-- the files in scanned clusters, ascending by number
abbrev pub scanned_files : Claims → List FileClaim
scanned_files claims = by_number claimed_number (filter (lies_in_scanned claims.clusters) claims.files)

abbrev pub run_count : FileClaim → ℕ
run_count file = length file.runs

-- how many runs are claimed: of fixed blocks, of clusters and of files
abbrev pub claimed_runs : Claims → ℕ
claimed_runs claims = length claims.fixed + length claims.clusters + sum_by run_count claims.files
