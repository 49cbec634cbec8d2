-- The blocks that are taken have owners, the cluster of the root is of them, and none is fixed.
use Rattle.std.proofs.Common.{◌≡◌, ℕ, Bool, true, false, ◌+◌, ◌^◌, ◌≤◌, ◌<◌, inl, inr, ◌==◌, ◌&&◌, nat_le, nat_lt, if◌then◌else◌, List, [], ◌∷◌, ◌++◌, map, ap₂, ◌∙◌, sym, subst, arith}
use Rattle.std.specs.List.{All, flat_map}
use Rattle.std.proofs.lemmas.Bool.{and_from, eqb-true, le-leb, lt-ltb}
use Rattle.std.proofs.lemmas.List.{append-nil}
use Rattle.std.proofs.lemmas.List.Elements.{All-append, All-from_recursion, All-map, All-weaker, recursion_from_All}
use Rattle.xfs_disk.specs.Lists.{is_among}
use Rattle.xfs_word.specs.declared.extents.Extent.{Extent}
use Rattle.xfs_geom.specs.Conversions.{is_fixed}
use Rattle.xfs_geom.specs.Runs.{covers}
use Rattle.xfs_geom.specs.Volumes.{Volume, volume_of}
use Rattle.xfs_geom.specs.declared.geometry.Geometry.{Geometry}
use Rattle.xfs_geom.specs.declared.records.Run.{Run}
use Rattle.xfs_image.specs.Clusters.{root_cluster}
use Rattle.xfs_volume.specs.declared.clusters.ClusterRec.{ClusterRec}
use Rattle.xfs_volume.specs.declared.files.FileRec.{FileRec}
use Rattle.xfs_space.specs.Owners.{attribute_flag, extent_run, file_runs, new_run, runs_of_blocks, tree_flag, unwritten_flag}
use Rattle.xfs_space.specs.Private.Places.{IsPlacedExtent}
use Rattle.xfs_space.proofs.Lawful.{placed}
use Rattle.xfs_place.specs.Pool.{is_taken}
use Rattle.xfs_place.specs.Wanted.{IsOffFixed, kept_runs}
use Rattle.xfs_made.proofs.xfs_views.Members.{Member, all_members, any_member, filter_member, flat_member, map_member, member_all, member_any, member_either, member_left, member_map}
use Rattle.xfs_made.specs.xfs_render.Readiness.{HasOwner}
use Rattle.xfs_tree.specs.Rules.{is_of_root_cluster}
use Rattle.xfs_request.specs.xfs_salvage.Claimable.{CanBeSalvaged, CanClaim}
use Rattle.xfs_request.specs.xfs_salvage.Kept.{is_kept_file, kept_clusters, kept_files, run_of_cluster, taken_in, taken_of}
use Rattle.xfs_request.specs.xfs_salvage.declared.found.Salvaged.{Salvaged}
use Rattle.xfs_made.proofs.Roots.{root_kept}
use Rattle.xfs_made.proofs.KeptTaken.{are_kept, each_can}
use Rattle.xfs_request.specs.Requests.{volume_wanted}
use Rattle.xfs_made.specs.Handed.{IsKeptOf}

-- what a request takes is what is taken of the clusters and files that were found
pub taken_is : (g : Geometry) (clusters : List ClusterRec) (files : List FileRec) (kept : Salvaged) (reserved : List ℕ) → IsKeptOf (volume_of g) clusters files kept
    → kept_runs (volume_wanted g kept reserved) ≡ taken_in (volume_of g) clusters files
unfolding volume_wanted taken_in
taken_is g clusters files kept reserved is =
    append-nil (taken_of (volume_of g) kept.clusters kept.files) ∙ ap₂ (taken_of (volume_of g)) is.clusters' is.files'

-- a number that a list has
pub among_member : (n : ℕ) (ns : List ℕ) → is_among ns n ≡ true → Member n ns
among_member n ns is =
    let one = any_member (λ m. m == n) ns is in
    subst (λ (m : ℕ). Member m ns) (eqb-true one.0 n one.2) one.1

-- owners, and offset words of 64 bits
cluster_owned : (block : ℕ) → HasOwner (run_of_cluster block)
cluster_owned block = record { owner = omega arith; offset = omega arith }

word_small : (flag u offset : ℕ) → flag ≤ 2 ^ 63 → u ≤ 2 ^ 61 → offset < 2 ^ 54 → flag + u + offset < 2 ^ 64
word_small flag u offset flagged unwritten small = omega (arith, flagged, unwritten, small)

either_flag : (t : Bool) → (if t then unwritten_flag else 0) ≤ 2 ^ 61
either_flag true = omega arith
either_flag false = omega arith

extent_owned : (v : Volume) (ino flag : ℕ) (e : Extent) → ino < 2 ^ 63 → flag ≤ 2 ^ 63 → IsPlacedExtent v e → HasOwner (extent_run v ino flag e)
extent_owned v ino flag e number flagged at =
    let offsets = at.offsets in
    record { owner = omega (arith, number); offset = word_small flag _ e.offset flagged (either_flag e.unwritten) (omega (arith, offsets)) }

block_owned : (ino block : ℕ) → ino < 2 ^ 63 → HasOwner (new_run block 1 ino tree_flag)
block_owned ino block number = record { owner = omega (arith, number); offset = omega arith }

fork_owned : (v : Volume) (ino flag : ℕ) (es : List Extent) → ino < 2 ^ 63 → flag ≤ 2 ^ 63 → All (IsPlacedExtent v) es → All HasOwner (map (extent_run v ino flag) es)
fork_owned v ino flag es number flagged all =
    All-map HasOwner (extent_run v ino flag) es
    (All-weaker (IsPlacedExtent v) (λ e. HasOwner (extent_run v ino flag e)) (λ e at. extent_owned v ino flag e number flagged at) es all)

file_owned : (v : Volume) (f : FileRec) → CanClaim v f → All HasOwner (file_runs v f)
file_owned v f can =
    let extents : List Run = map (extent_run v f.ino 0) f.extents in
    let attributes : List Run = map (extent_run v f.ino attribute_flag) f.rest.attr_extents in
    All-append HasOwner (extents ++ attributes) (runs_of_blocks f.ino tree_flag f.rest.tree)
    (All-append HasOwner extents attributes
    (fork_owned v f.ino 0 f.extents can.number (omega arith) (placed v f.ino f.extents can.lies.extents))
    (fork_owned v f.ino attribute_flag f.rest.attr_extents can.number (omega arith) (placed v f.ino f.rest.attr_extents can.lies.attr_extents)))
    (All-map HasOwner (λ block. new_run block 1 f.ino tree_flag) f.rest.tree
    (All-weaker (λ block. block < v.dblocks) (λ block. HasOwner (new_run block 1 f.ino tree_flag)) (λ block inside. block_owned f.ino block can.number) f.rest.tree can.lies.tree))

module _ (g : Geometry) (clusters : List ClusterRec) (files : List FileRec) where
  abbrev of_clusters : List Run
  of_clusters = map run_of_cluster (kept_clusters (volume_of g) clusters files)

  abbrev of_files : List Run
  of_files = flat_map (file_runs (volume_of g)) (kept_files (volume_of g) clusters files)

  run_owned : (r : Run) → CanBeSalvaged (volume_of g) clusters files → Member r (taken_in (volume_of g) clusters files) → HasOwner r
  unfolding taken_in kept_files
  run_owned r can is =
      let v : Volume = volume_of g in
      elim (member_either r of_clusters of_files is) [
        | inl first ↦
            let of = map_member run_of_cluster r (kept_clusters v clusters files) first in
            subst HasOwner of.2 (cluster_owned of.0)
        | inr second ↦
            let of = flat_member (file_runs v) r (kept_files v clusters files) second in
            let among = filter_member (is_kept_file v clusters files) of.0 files of.1 in
            let file = member_all (CanClaim v) of.0 files (each_can v 0 files can.files_claim) among.0 in
            member_all HasOwner r (file_runs v of.0) (recursion_from_All HasOwner (file_runs v of.0) (file_owned v of.0 file)) of.2
      ]

  pub taken_owned : CanBeSalvaged (volume_of g) clusters files → All HasOwner (taken_in (volume_of g) clusters files)
  taken_owned can =
      let taken : List Run = taken_in (volume_of g) clusters files in
      All-from_recursion HasOwner taken (all_members HasOwner taken (λ r is. run_owned r can is))

  -- the run of a kept cluster is taken
  cluster_taken : (k : ℕ) → Member k (kept_clusters (volume_of g) clusters files) → Member (run_of_cluster k) (taken_in (volume_of g) clusters files)
  unfolding taken_in
  cluster_taken k is =
      let v : Volume = volume_of g in
      member_left (run_of_cluster k) of_clusters of_files (member_map run_of_cluster k (kept_clusters v clusters files) is)

  pub root_taken : (block : ℕ) → is_of_root_cluster (volume_of g) block ≡ true → is_taken (taken_in (volume_of g) clusters files) block ≡ true
  unfolding is_taken
  root_taken block is =
      let v : Volume = volume_of g in
      let there = among_member (root_cluster v) (kept_clusters v clusters files) (root_kept g clusters files) in
      member_any (covers block) (run_of_cluster (root_cluster v)) (taken_in v clusters files) (cluster_taken (root_cluster v) there) is

  -- no block of a kept cluster is fixed
  pub cluster_clear : CanBeSalvaged (volume_of g) clusters files → (k block : ℕ) → is_among (kept_clusters (volume_of g) clusters files) k ≡ true
      → k ≤ block → block < k + 4 → is_fixed (volume_of g) block ≡ false
  cluster_clear can k block is low high =
      let v : Volume = volume_of g in
      let taken : List Run = taken_in v clusters files in
      let off : IsOffFixed v (run_of_cluster k) =
      member_all (IsOffFixed v) (run_of_cluster k) taken (recursion_from_All (IsOffFixed v) taken (are_kept g clusters files can).clear)
      (cluster_taken k (among_member k (kept_clusters v clusters files) is)) in
      off block (and_from (nat_le k block) (nat_lt block (k + 4)) (le-leb k block low) (lt-ltb block (k + 4) high))
