-- The clusters that a request takes lie in the volume.
use Rattle.std.proofs.Common.{◌≡◌, ℕ, ◌+◌, ◌≤◌, List, [], ◌∷◌, ◌++◌, map, subst}
use Rattle.std.specs.List.{All, flat_map}
use Rattle.std.proofs.lemmas.List.{append-nil}
use Rattle.std.proofs.lemmas.List.Elements.{All-cons, All-head, All-nil, All-tail}
use Rattle.xfs_geom.specs.Volumes.{volume_of}
use Rattle.xfs_geom.specs.declared.geometry.Geometry.{Geometry}
use Rattle.xfs_geom.specs.declared.records.Run.{Run}
use Rattle.xfs_place.specs.Claims.{IsClaimedRun}
use Rattle.xfs_place.specs.Wanted.{CanBeKept, kept_runs}
use Rattle.xfs_space.specs.Owners.{file_runs}
use Rattle.xfs_salvage.specs.Kept.{run_of_cluster, taken_of}
use Rattle.xfs_salvage.specs.declared.found.Salvaged.{Salvaged}
use Rattle.xfs_request.specs.Requests.{volume_wanted}

first_runs : (top : ℕ) (clusters : List ℕ) (rest : List Run) → All (IsClaimedRun top) (map run_of_cluster clusters ++ rest) → All (λ cluster. cluster + 4 ≤ top) clusters
first_runs top [] rest each = All-nil (λ cluster. cluster + 4 ≤ top)
first_runs top (c ∷ cs) rest each =
    All-cons (λ cluster. cluster + 4 ≤ top) c cs (All-head (IsClaimedRun top) (run_of_cluster c) (map run_of_cluster cs ++ rest) each).inside
    (first_runs top cs rest (All-tail (IsClaimedRun top) (run_of_cluster c) (map run_of_cluster cs ++ rest) each))

kept_is : (g : Geometry) (kept : Salvaged) (reserved : List ℕ) → kept_runs (volume_wanted g kept reserved) ≡ taken_of (volume_of g) kept.clusters kept.files
unfolding volume_wanted
kept_is g kept reserved = append-nil (taken_of (volume_of g) kept.clusters kept.files)

pub clusters_lie : (g : Geometry) (kept : Salvaged) (reserved : List ℕ) → CanBeKept (volume_of g) (kept_runs (volume_wanted g kept reserved))
    → All (λ cluster. cluster + 4 ≤ g.dblocks) kept.clusters
clusters_lie g kept reserved can =
    first_runs g.dblocks kept.clusters (flat_map (file_runs (volume_of g)) kept.files) (subst (All (IsClaimedRun g.dblocks)) (kept_is g kept reserved) can.each)
