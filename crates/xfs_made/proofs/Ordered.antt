-- The order of what is kept.
use Rattle.std.proofs.Common.{◌≡◌, ℕ, ◌+◌, ◌≤◌, Bool, true, false, cond, List, [], ◌∷◌, filter, arith}
use Rattle.std.specs.List.{All}
use Rattle.std.proofs.lemmas.List.Elements.{All-cons, All-nil}
use Rattle.xfs_disk.specs.Lists.{with_number}
use Rattle.xfs_collections.specs.Blocks.{meets}
use Rattle.xfs_geom.specs.Volumes.{Volume}
use Rattle.xfs_volume.specs.declared.clusters.ClusterRec.{ClusterRec}
use Rattle.xfs_volume.specs.declared.files.FileRec.{FileRec}
use Rattle.xfs_naming.specs.Naming.{NumbersAscend, numbers_of}
use Rattle.xfs_space.specs.Parts.{HasLawfulForks}
use Rattle.xfs_claims.specs.declared.claimants.Claims.{Claims}
use Rattle.xfs_claims.specs.declared.claimants.FileClaim.{FileClaim}
use Rattle.xfs_claims.specs.Keeping.{Holding, cluster_span, fixed_alone, is_kept, kept_of, with_cluster, with_clusters, with_file, with_files}
use Rattle.xfs_claims.specs.Ranks.{recorded_clusters, recorded_files, scanned_clusters, scanned_files}
use Rattle.xfs_claims.specs.Spans.{spans_of, with_blocks}
use Rattle.xfs_made.specs.xfs_views.Claimed.{claims_in}
use Rattle.xfs_request.specs.xfs_salvage.Claimable.{AscendClaiming, CanBeSalvaged}
use Rattle.xfs_request.specs.xfs_salvage.Kept.{claims_held, kept_clusters, kept_files, is_kept_file}
use Rattle.xfs_request.proofs.xfs_salvage.Ascending.{claiming_ascend, filtered, with_ascends}

-- clusters, one after the other
cluster_ascends : (held : Holding) (block : ℕ) → NumbersAscend 0 held.clusters → NumbersAscend 0 (with_cluster held block).clusters
cluster_ascends held block up = by_case (meets held.blocks block 4)
  where
    by_case : (t : Bool)
        → NumbersAscend 0 (cond t held (record { blocks = with_blocks held.blocks (cluster_span block); clusters = with_number block held.clusters; files = held.files })).clusters
    by_case true = up
    by_case false = with_ascends 0 block held.clusters (omega arith) up

clusters_ascend : (held : Holding) (blocks : List ℕ) → NumbersAscend 0 held.clusters → NumbersAscend 0 (with_clusters held blocks).clusters
clusters_ascend held [] up = up
clusters_ascend held (block ∷ blocks) up = clusters_ascend (with_cluster held block) blocks (cluster_ascends held block up)

-- files leave them as they are
file_leaves : (held : Holding) (f : FileClaim) → NumbersAscend 0 held.clusters → NumbersAscend 0 (with_file held f).clusters
file_leaves held f up = by_case (is_kept held f)
  where
    by_case : (t : Bool)
        → NumbersAscend 0 (cond t (record { blocks = with_blocks held.blocks (spans_of f.runs); clusters = held.clusters; files = with_number f.ino held.files }) held).clusters
    by_case true = up
    by_case false = up

files_leave : (held : Holding) (fs : List FileClaim) → NumbersAscend 0 held.clusters → NumbersAscend 0 (with_files held fs).clusters
files_leave held [] up = up
files_leave held (f ∷ fs) up = files_leave (with_file held f) fs (file_leaves held f up)

all_ascend : (claims : Claims) → NumbersAscend 0 (kept_of claims).clusters
all_ascend claims =
    let first : Holding = with_clusters (fixed_alone (spans_of claims.fixed)) (claims.root ∷ recorded_clusters claims) in
    let middle : Holding = with_files first (recorded_files claims) in
    let third : Holding = with_clusters middle (scanned_clusters claims) in
    files_leave third (scanned_files claims)
    (clusters_ascend middle (scanned_clusters claims)
    (files_leave first (recorded_files claims)
    (clusters_ascend (fixed_alone (spans_of claims.fixed)) (claims.root ∷ recorded_clusters claims) tt)))

pub clusters_of_volume_ascend : (v : Volume) (clusters : List ClusterRec) (files : List FileRec) → NumbersAscend 0 (kept_clusters v clusters files)
unfolding claims_held
clusters_of_volume_ascend v clusters files = all_ascend (claims_in v clusters files)

pub files_of_volume_ascend : (v : Volume) (clusters : List ClusterRec) (files : List FileRec) → CanBeSalvaged v clusters files → NumbersAscend 0 (numbers_of (kept_files v clusters files))
unfolding kept_files
files_of_volume_ascend v clusters files can = filtered (is_kept_file v clusters files) 0 files (claiming_ascend v 0 files can.files_claim)

-- each of the files that are kept can have its extents
forks_kept : (v : Volume) (test : FileRec → Bool) (low : ℕ) (fs : List FileRec) → AscendClaiming v low fs → All (HasLawfulForks v) (filter test fs)
forks_kept v test low [] up = All-nil (HasLawfulForks v)
forks_kept v test low (f ∷ fs) up = either (test f) (forks_kept v test (f.ino + 1) fs up.2)
  where
    either : (t : Bool) → All (HasLawfulForks v) (filter test fs) → All (HasLawfulForks v) (cond t (f ∷ filter test fs) (filter test fs))
    either true rest = All-cons (HasLawfulForks v) f (filter test fs) up.1.lies rest
    either false rest = rest

pub files_have_forks : (v : Volume) (clusters : List ClusterRec) (files : List FileRec) → CanBeSalvaged v clusters files → All (HasLawfulForks v) (kept_files v clusters files)
unfolding kept_files
files_have_forks v clusters files can = forks_kept v (is_kept_file v clusters files) 0 files can.files_claim
