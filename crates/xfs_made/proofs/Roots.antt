-- The cluster of the root is kept: it is looked at first, and it has no fixed block.
use Rattle.std.proofs.Common.{◌≡◌, ℕ, Bool, true, false, ◌+◌, ◌*◌, ◌/◌, ◌%◌, ◌^◌, ◌≤◌, ◌<◌, ◌⊎◌, inl, inr, nat_le, nat_lt, if◌then◌else◌, List, [], ◌∷◌, ◌++◌, refl, sym, ◌∙◌, ap, ap₂, subst, arith}
use Rattle.std.proofs.lemmas.Bool.{and_from, eq-eqb, false_from_ne_true, le-leb, leb-true, lt-ltb, or_cases, or_left}
use Rattle.std.proofs.lemmas.List.Sums.{sum_by-append}
use Rattle.std.proofs.Math.Nat.{mod-lt}
use Rattle.std.proofs.lemmas.Nat.{div-add-mod', div-mul-add, mod-mul-add}
use Rattle.xfs_geom.specs.Runs.{covers, runs_on}
use Rattle.xfs_disk.specs.Lists.{is_among, with_number}
use Rattle.xfs_geom.specs.Groups.{block_of_address}
use Rattle.xfs_geom.specs.Volumes.{Volume, volume_of}
use Rattle.xfs_geom.specs.declared.geometry.Geometry.{Geometry}
use Rattle.xfs_geom.specs.declared.records.Run.{Run}
use Rattle.xfs_collections.specs.Blocks.{is_in, meets}
use Rattle.xfs_collections.proofs.Meeting.{meets_none}
use Rattle.xfs_space.proofs.FreeSpans.{group_short}
use Rattle.xfs_space.proofs.RecordedMaps.{group_inside}
use Rattle.xfs_volume.specs.declared.clusters.ClusterRec.{ClusterRec}
use Rattle.xfs_volume.specs.declared.files.FileRec.{FileRec}
use Rattle.xfs_claims.specs.declared.claimants.Claims.{Claims}
use Rattle.xfs_claims.specs.Keeping.{Holding, fixed_alone, kept_of, with_cluster, with_clusters, with_files}
use Rattle.xfs_claims.specs.Ranks.{recorded_clusters, recorded_files, scanned_clusters, scanned_files}
use Rattle.xfs_claims.specs.Spans.{spans_of}
use Rattle.xfs_image.specs.Clusters.{root_cluster}
use Rattle.xfs_place.specs.Choice.{one_if}
use Rattle.xfs_place.specs.Wanted.{CanBeKept}
use Rattle.xfs_place.proofs.AllClaims.{all_apart, is_volume}
use Rattle.xfs_place.proofs.KeptRun.{kept_alone}
use Rattle.xfs_place.proofs.Ordered.{on_first}
use Rattle.xfs_made.specs.xfs_views.Claimed.{claims_in}
use Rattle.xfs_kinds.specs.FixedRuns.{fixed_runs}
use Rattle.xfs_made.proofs.xfs_views.Addresses.{addresses_of}
use Rattle.xfs_made.proofs.xfs_views.Claimed.{spans_are}
use Rattle.xfs_made.proofs.xfs_views.Counted.{any_on}
use Rattle.xfs_made.proofs.xfs_views.Kept.{clusters_stay, clusters_stay_on}
use Rattle.xfs_request.specs.xfs_salvage.Kept.{run_of_cluster, claims_held, kept_clusters}
use Rattle.xfs_made.proofs.Claims.{cluster_claim}

-- where the cluster of the root stands in its group
root_address : (k m e : ℕ) → k ≡ 4 * m → e / k * k + e % k ≡ e → e / 4 * 4 ≡ e / k * k + 4 * (e % k / 4)
root_address k m e four whole =
    let product : e / k * k ≡ 4 * (e / k * m) = subst (λ (n : ℕ). e / k * n ≡ 4 * (e / k * m)) (sym four) (omega arith) in
    omega (arith, product, whole)

pub root_is : (g : Geometry) → root_cluster (volume_of g) ≡ g.rootino / 8 / 2 ^ g.agblklog * g.agblocks + 4 * (g.rootino / 8 % 2 ^ g.agblklog / 4)
root_is g =
    let e : ℕ = g.rootino / 8 in
    let k : ℕ = 2 ^ g.agblklog in
    let four = addresses_of g in
    let wide = g.shape.addresses.enough in
    let large = g.shape.groups.large in
    let short : e % k < k = mod-lt e (omega (arith, wide, large)) in
    let same : g.rootino / 32 * 4 ≡ e / 4 * 4 = omega arith in
    let at : g.rootino / 32 * 4 ≡ e / k * k + 4 * (e % k / 4) = same ∙ root_address k four.quarter e four.is (div-add-mod' e k) in
    let low : 4 * (e % k / 4) < k = omega (arith, short) in
    ap (block_of_address g.agblocks g.agblklog) at
    ∙ ap₂ (λ (a b : ℕ). a * g.agblocks + b) (div-mul-add (e / k) k (4 * (e % k / 4)) low) (mod-mul-add (e / k) k (4 * (e % k / 4)) low)

root_kept_alone : (g : Geometry) → CanBeKept (volume_of g) (run_of_cluster (root_cluster (volume_of g)) ∷ [])
root_kept_alone g =
    let v : Volume = volume_of g in
    let ag : ℕ = g.rootino / 8 / 2 ^ g.agblklog in
    let b : ℕ = g.rootino / 8 % 2 ^ g.agblklog in
    let of_group = group_inside v ag g.shape.root.group g.shape.groups.last in
    let short = group_short v ag g.shape.groups.covered in
    let inside = g.shape.root.inside in
    let behind = g.shape.root.behind in
    let start = root_is g in
    let low : 4 * (b / 4) < g.agblocks = omega (arith, inside, short) in
    let rest : root_cluster v % g.agblocks ≡ 4 * (b / 4) = ap (λ (n : ℕ). n % g.agblocks) start ∙ mod-mul-add ag g.agblocks (4 * (b / 4)) low in
    kept_alone v (run_of_cluster (root_cluster v)) (cluster_claim g.dblocks (root_cluster v) (omega (arith, of_group, inside, start))) (omega (arith, rest, behind))
    (omega (arith, rest, inside, short)) (by_log (or_cases _ _ g.shape.root.apart))
  where
    by_log : ((nat_le (root_cluster (volume_of g) + 4) g.log ≡ true) ⊎ (nat_le (g.log + g.logblocks) (root_cluster (volume_of g)) ≡ true))
        → ((root_cluster (volume_of g) + 4 ≤ g.log) ⊎ (g.log + g.logblocks ≤ root_cluster (volume_of g)))
    by_log (inl before) = inl (leb-true (root_cluster (volume_of g) + 4) g.log before)
    by_log (inr after) = inr (leb-true (g.log + g.logblocks) (root_cluster (volume_of g)) after)

root_unfixed : (g : Geometry) (b : ℕ) → root_cluster (volume_of g) ≤ b → b < root_cluster (volume_of g) + 4 → is_in (spans_of (fixed_runs (volume_of g))) b ≡ false
root_unfixed g b low high = false_from_ne_true (is_in (spans_of (fixed_runs (volume_of g))) b) (λ on.
    let v : Volume = volume_of g in
    let own : Run = run_of_cluster (root_cluster v) in
    let once = (all_apart v (is_volume v g.shape.groups g.shape.log_inside) (own ∷ []) (root_kept_alone g)).once b in
    let sums : runs_on (fixed_runs v ++ own ∷ []) b ≡ runs_on (fixed_runs v) b + runs_on (own ∷ []) b = sum_by-append (λ (r : Run). if covers b r then 1 else 0) (fixed_runs v) (own ∷ []) in
    let last = on_first own [] b in
    let here : one_if (covers b own) ≡ 1 = ap one_if (and_from (nat_le (root_cluster v) b) (nat_lt b (root_cluster v + 4)) (le-leb (root_cluster v) b low) (lt-ltb b (root_cluster v + 4) high)) in
    let some : 1 ≤ runs_on (fixed_runs v) b = any_on (fixed_runs v) b (sym (spans_are (fixed_runs v) b) ∙ on) in
    omega (arith, once, sums, last, here, some))

first_kept : (held : Holding) (k : ℕ) → held.clusters ≡ [] → meets held.blocks k 4 ≡ false → is_among (with_cluster held k).clusters k ≡ true
first_kept held k none off = rw (off, none) (or_left _ false (eq-eqb k k refl))

pub root_kept : (g : Geometry) (clusters : List ClusterRec) (files : List FileRec) → is_among (kept_clusters (volume_of g) clusters files) (root_cluster (volume_of g)) ≡ true
unfolding claims_held
root_kept g clusters files =
    let v : Volume = volume_of g in
    let claims : Claims = claims_in v clusters files in
    let start : Holding = fixed_alone (spans_of (fixed_runs v)) in
    let one : Holding = with_cluster start (root_cluster v) in
    let first : Holding = with_clusters one (recorded_clusters claims) in
    let middle : Holding = with_files first (recorded_files claims) in
    let third : Holding = with_clusters middle (scanned_clusters claims) in
    clusters_stay (root_cluster v) third (scanned_files claims)
    (clusters_stay_on (root_cluster v) middle (scanned_clusters claims)
    (clusters_stay (root_cluster v) first (recorded_files claims)
    (clusters_stay_on (root_cluster v) one (recorded_clusters claims)
    (first_kept start (root_cluster v) refl (meets_none (is_in (spans_of (fixed_runs v))) (root_cluster v) 4 (root_unfixed g))))))
