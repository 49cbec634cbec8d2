-- What is taken is what the chunks that are asked and the files that are due own.
use Rattle.std.proofs.Common.{◌≡◌, ℕ, ◌≤◌, List, ◌++◌, map, ap, ap₂, sym, subst, ◌∙◌}
use Rattle.std.specs.List.{AllByRecursion, flat_map}
use Rattle.std.proofs.lemmas.List.{append-nil}
use Rattle.xfs_disk.specs.Blocks.{Image}
use Rattle.xfs_geom.specs.Runs.{runs_on}
use Rattle.xfs_geom.specs.Volumes.{Volume, volume_of}
use Rattle.xfs_geom.specs.declared.geometry.Geometry.{Geometry}
use Rattle.xfs_geom.specs.declared.records.Run.{Run}
use Rattle.xfs_image.specs.Candidates.{candidates}
use Rattle.xfs_image.specs.Claims.{candidate_files}
use Rattle.xfs_kinds.specs.MergedRuns.{held_at}
use Rattle.xfs_naming.specs.Naming.{NumbersAscend}
use Rattle.xfs_place.specs.Wanted.{kept_runs}
use Rattle.xfs_space.specs.Owners.{file_runs}
use Rattle.xfs_volume.specs.declared.files.FileRec.{FileRec}
use Rattle.xfs_request.specs.xfs_salvage.Kept.{run_of_cluster, taken_of}
use Rattle.xfs_request.specs.xfs_salvage.declared.found.Salvaged.{Salvaged}
use Rattle.xfs_made.proofs.Ordered.{clusters_of_volume_ascend}
use Rattle.xfs_made.proofs.Candidates.{image_can}
use Rattle.xfs_made.specs.Keeping.{KeepsJust, all_used}
use Rattle.xfs_request.specs.Requests.{volume_wanted}
use Rattle.xfs_made.specs.Handed.{IsKeptOf}
use Rattle.xfs_made.proofs.Chunked.{IsHalf, kept_halves}
use Rattle.xfs_made.proofs.Clusters.{clusters_are_kept}
use Rattle.xfs_made.proofs.Writable.{can_be_kept}

kept_is : (g : Geometry) (kept : Salvaged) (reserved : List ℕ) → kept_runs (volume_wanted g kept reserved) ≡ taken_of (volume_of g) kept.clusters kept.files
unfolding volume_wanted
kept_is g kept reserved = append-nil (taken_of (volume_of g) kept.clusters kept.files)

pub keeps_just : (g : Geometry) (image : Image) (kept : Salvaged) (reserved : List ℕ) (due : List FileRec)
    → IsKeptOf (volume_of g) (candidates (volume_of g) image) (candidate_files (volume_of g) image) kept → flat_map (file_runs (volume_of g)) due ≡ flat_map (file_runs (volume_of g)) kept.files
    → KeepsJust (volume_of g) (kept_runs (volume_wanted g kept reserved)) (volume_wanted g kept reserved).inodes due
keeps_just g image kept reserved due is same =
    let v : Volume = volume_of g in
    let up : NumbersAscend 0 kept.clusters = subst (NumbersAscend 0) (sym is.clusters') (clusters_of_volume_ascend v (candidates v image) (candidate_files v image)) in
    let halves : AllByRecursion (IsHalf g) kept.clusters = subst (AllByRecursion (IsHalf g)) (sym is.clusters') (kept_halves g image) in
    let used : all_used v (volume_wanted g kept reserved).inodes due ≡ kept_runs (volume_wanted g kept reserved) =
    ap₂ (λ (xs ys : List Run). xs ++ ys) (clusters_are_kept g kept reserved up halves) same ∙ sym (kept_is g kept reserved) in
    let once = (can_be_kept g (candidates v image) (candidate_files v image) kept reserved (image_can g image) is).apart.once in
    record {
      once = λ block. subst (λ (rs : List Run). runs_on rs block ≤ 1) (sym used) (once block);
      held = λ block. ap (λ (rs : List Run). held_at rs block) used;
    }
