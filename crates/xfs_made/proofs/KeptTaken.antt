-- What is kept of clusters and files can be placed beside: blocks of the volume, none of them fixed, none of two of it.
use Rattle.std.proofs.Common.{◌≡◌, ℕ, Bool, true, false, not, cond, ◌+◌, ◌*◌, ◌/◌, ◌%◌, ◌≤◌, ◌<◌, inl, inr, ◌&&◌, ◌||◌, ◌==◌, nat_le, nat_lt, if◌then◌else◌, List, [], ◌∷◌, ◌++◌, map, refl, sym, ◌∙◌, ap, subst, arith}
use Rattle.std.specs.List.{All, AllByRecursion, filter, flat_map, range_with_len}
use Rattle.std.proofs.lemmas.Bool.{and_from, and_parts, cases_lt, cond-true, eqb-true, false_from_ne_true, le-leb, lt-ltb, ltb-true, or_cases}
use Rattle.std.proofs.lemmas.List.Elements.{All-from_recursion, recursion_from_All}
use Rattle.std.proofs.lemmas.List.Sums.{sum_by-append}
use Rattle.std.proofs.lemmas.Nat.{div-add-mod'}
use Rattle.std.proofs.Math.Nat.{mul-le-mul_right}
use Rattle.xfs_geom.specs.Runs.{covers, runs_on}
use Rattle.xfs_disk.specs.Lists.{is_in_range, is_among, with_number}
use Rattle.xfs_geom.specs.Conversions.{is_fixed}
use Rattle.xfs_geom.specs.Volumes.{Volume, volume_of}
use Rattle.xfs_geom.specs.declared.geometry.Geometry.{Geometry}
use Rattle.xfs_geom.specs.declared.records.Run.{Run}
use Rattle.xfs_collections.specs.Blocks.{is_in, meets}
use Rattle.xfs_volume.specs.declared.clusters.ClusterRec.{ClusterRec}
use Rattle.xfs_volume.specs.declared.files.FileRec.{FileRec}
use Rattle.xfs_space.specs.Owners.{file_runs}
use Rattle.xfs_claims.specs.declared.claimants.Claims.{Claims}
use Rattle.xfs_claims.specs.declared.claimants.FileClaim.{FileClaim}
use Rattle.xfs_claims.specs.Keeping.{Holding, cluster_span, fixed_alone, is_kept, kept_of, with_cluster, with_clusters, with_file, with_files}
use Rattle.xfs_claims.specs.Ranks.{by_number, first_block, is_other_recorded, is_recorded_cluster, is_scanned_cluster, own_number, recorded_clusters, recorded_files, scanned_clusters, scanned_files}
use Rattle.xfs_claims.specs.Spans.{SpansApart, spans_of, with_blocks}
use Rattle.xfs_claims.proofs.Ordered.{to_order}
use Rattle.xfs_place.specs.Choice.{one_if}
use Rattle.xfs_place.specs.Claims.{IsClaimedRun}
use Rattle.xfs_place.specs.Wanted.{CanBeKept, IsOffFixed}
use Rattle.xfs_place.proofs.Ordered.{on_first}
use Rattle.xfs_made.specs.xfs_views.Claimed.{claims_in, file_claim}
use Rattle.xfs_kinds.specs.FixedRuns.{fixed_runs, header_run, log_run}
use Rattle.xfs_made.proofs.xfs_views.Claimed.{spans_are}
use Rattle.xfs_made.proofs.xfs_views.Counted.{member_on}
use Rattle.xfs_made.proofs.xfs_views.Members.{Member, all_members, any_member, filter_member, flat_member, map_member, member_all, member_any, member_either, member_map, member_row}
use Rattle.xfs_request.specs.xfs_salvage.Claimable.{AscendClaiming, AscendWithin, CanBeSalvaged, CanClaim}
use Rattle.xfs_request.specs.xfs_salvage.Kept.{run_of_cluster, claims_held, kept_clusters, kept_files, is_kept_file, taken_in}
use Rattle.xfs_request.proofs.xfs_salvage.Conditions.{files_differ}
use Rattle.xfs_made.proofs.Claims.{cluster_claim, file_claims}
use Rattle.xfs_made.proofs.Tallies.{Tallies, clusters_on, files_on, kept_tallies, part_of, spans_on}

-- what holds of all clusters that are looked at holds of the kept ones
with_all : (P : ℕ → Type 0) (n : ℕ) (ns : List ℕ) → P n → AllByRecursion P ns → AllByRecursion P (with_number n ns)
with_all P n [] here all = (here, tt)
with_all P n (m ∷ ms) here all = by_less (nat_lt n m) (n == m) (with_all P n ms here all.1)
  where
    by_less : (s t : Bool) → AllByRecursion P (with_number n ms) → AllByRecursion P (if s then n ∷ m ∷ ms else (if t then m ∷ ms else (m ∷ with_number n ms)))
    by_less true t rest = (here, all)
    by_less false true rest = all
    by_less false false rest = (all.0, rest)

clusters_all : (P : ℕ → Type 0) (held : Holding) (ks : List ℕ) → AllByRecursion P ks → AllByRecursion P held.clusters → AllByRecursion P (with_clusters held ks).clusters
clusters_all P held [] new all = all
clusters_all P held (k ∷ ks) new all = clusters_all P (with_cluster held k) ks new.1 (by_case (meets held.blocks k 4))
  where
    by_case : (t : Bool)
        → AllByRecursion P (cond t held (record { blocks = with_blocks held.blocks (cluster_span k); clusters = with_number k held.clusters; files = held.files })).clusters
    by_case true = all
    by_case false = with_all P k held.clusters new.0 all

files_all : (P : ℕ → Type 0) (held : Holding) (gs : List FileClaim) → AllByRecursion P held.clusters → AllByRecursion P (with_files held gs).clusters
files_all P held [] all = all
files_all P held (g ∷ gs) all = files_all P (with_file held g) gs (by_case (is_kept held g))
  where
    by_case : (t : Bool)
        → AllByRecursion P (cond t (record { blocks = with_blocks held.blocks (spans_of g.runs); clusters = held.clusters; files = with_number g.ino held.files }) held).clusters
    by_case true = all
    by_case false = all

of_clusters : (P : ℕ → Type 0) (test : ClusterRec → Bool) (cs : List ClusterRec) → AllByRecursion (λ (c : ClusterRec). P c.block) cs
    → AllByRecursion P (by_number own_number (map first_block (filter test cs)))
of_clusters P test cs all =
    to_order own_number P (map first_block (filter test cs))
    (all_members P (map first_block (filter test cs)) (λ k is.
    let of = map_member first_block k (filter test cs) is in
    let among = filter_member test of.0 cs of.1 in
    subst P of.2 (member_all (λ (c : ClusterRec). P c.block) of.0 cs all among.0)))

of_root : (P : ℕ → Type 0) (root : ℕ) (cs : List ClusterRec) → is_recorded_cluster cs root ≡ true → AllByRecursion (λ (c : ClusterRec). P c.block) cs → P root
of_root P root cs recorded all =
    let one = any_member (λ (c : ClusterRec). c.recorded && c.block == root) cs recorded in
    let both = and_parts one.0.recorded (one.0.block == root) one.2 in
    subst P (eqb-true one.0.block root both.1) (member_all (λ (c : ClusterRec). P c.block) one.0 cs all one.1)

pub kept_all : (P : ℕ → Type 0) (claims : Claims) → is_recorded_cluster claims.clusters claims.root ≡ true → AllByRecursion (λ (c : ClusterRec). P c.block) claims.clusters
    → AllByRecursion P (kept_of claims).clusters
kept_all P claims root all =
    let first : Holding = with_clusters (fixed_alone (spans_of claims.fixed)) (claims.root ∷ recorded_clusters claims) in
    let middle : Holding = with_files first (recorded_files claims) in
    let third : Holding = with_clusters middle (scanned_clusters claims) in
    files_all P third (scanned_files claims)
    (clusters_all P middle (scanned_clusters claims) (of_clusters P is_scanned_cluster claims.clusters all)
    (files_all P first (recorded_files claims)
    (clusters_all P (fixed_alone (spans_of claims.fixed)) (claims.root ∷ recorded_clusters claims)
    (of_root P claims.root claims.clusters root all, of_clusters P (is_other_recorded claims.root) claims.clusters all) tt)))

pub end_by : (top low : ℕ) (cs : List ClusterRec) → AscendWithin top low cs → AllByRecursion (λ (c : ClusterRec). c.block + 4 ≤ top) cs
end_by top low [] up = tt
end_by top low (c ∷ cs) up = (up.1, end_by top (c.block + 4) cs up.2)

pub each_can : (v : Volume) (low : ℕ) (fs : List FileRec) → AscendClaiming v low fs → AllByRecursion (CanClaim v) fs
each_can v low [] up = tt
each_can v low (f ∷ fs) up = (up.1, each_can v (f.ino + 1) fs up.2)

claims_apart : (v : Volume) (low : ℕ) (fs : List FileRec) → AscendClaiming v low fs → AllByRecursion (λ (f : FileClaim). SpansApart (spans_of f.runs)) (map (file_claim v) fs)
claims_apart v low [] up = tt
claims_apart v low (f ∷ fs) up = (up.1.apart, claims_apart v (f.ino + 1) fs up.2)

-- counts of runs as counts of what is held
clusters_are : (ks : List ℕ) (b : ℕ) → runs_on (map run_of_cluster ks) b ≡ clusters_on ks b
clusters_are [] b = refl
clusters_are (k ∷ ks) b = let sums = on_first (run_of_cluster k) (map run_of_cluster ks) b in let rest = clusters_are ks b in omega (arith, sums, rest)

pub spans_count : (rs : List Run) (b : ℕ) → runs_on rs b ≡ spans_on (spans_of rs) b
spans_count [] b = refl
spans_count (r ∷ rs) b = let sums = on_first r rs b in let rest = spans_count rs b in omega (arith, sums, rest)

files_upto : (v : Volume) (test : FileRec → Bool) (held : ℕ → Bool) → ((f : FileRec) → test f ≡ true → held f.ino ≡ true) → (fs : List FileRec) (b : ℕ)
    → runs_on (flat_map (file_runs v) (filter test fs)) b ≤ files_on held (map (file_claim v) fs) b
files_upto v test held says [] b = let none : runs_on [] b ≡ 0 = refl in omega (arith, none)
files_upto v test held says (f ∷ fs) b = by_case (test f) refl (files_upto v test held says fs b)
  where
    by_case : (t : Bool) → test f ≡ t → runs_on (flat_map (file_runs v) (filter test fs)) b ≤ files_on held (map (file_claim v) fs) b
        → runs_on (flat_map (file_runs v) (cond t (f ∷ filter test fs) (filter test fs))) b
        ≤ part_of (held f.ino) (spans_of (file_runs v f)) b + files_on held (map (file_claim v) fs) b
    by_case true e rest =
        let sums : runs_on (file_runs v f ++ flat_map (file_runs v) (filter test fs)) b ≡ runs_on (file_runs v f) b + runs_on (flat_map (file_runs v) (filter test fs)) b =
        sum_by-append (λ (r : Run). if covers b r then 1 else 0) (file_runs v f) (flat_map (file_runs v) (filter test fs)) in
        let own = spans_count (file_runs v f) b in
        let here : part_of (held f.ino) (spans_of (file_runs v f)) b ≡ spans_on (spans_of (file_runs v f)) b =
        cond-true (held f.ino) (spans_on (spans_of (file_runs v f)) b) 0 (says f e) in
        omega (arith, rest, sums, own, here)
    by_case false e rest = omega (arith, rest)

-- a fixed block of the volume is of one of the fixed runs
pub fixed_covered : (g : Geometry) (block : ℕ) → block < g.dblocks → is_fixed (volume_of g) block ≡ true → is_in (spans_of (fixed_runs (volume_of g))) block ≡ true
fixed_covered g block inside fixed =
    let v : Volume = volume_of g in
    spans_are (fixed_runs v) block
    ∙ elim (or_cases (block % v.agblocks == 0) (nat_le v.log block && nat_lt block (v.log + v.logblocks)) fixed) [
      | inl first ↦
          let ag : ℕ = block / v.agblocks in
          let whole : ag * v.agblocks + block % v.agblocks ≡ block = div-add-mod' block v.agblocks in
          let none : block % v.agblocks ≡ 0 = eqb-true (block % v.agblocks) 0 first in
          let at : ag * v.agblocks ≡ block = omega (arith, whole, none) in
          let low : ag < v.agcount = few ag at in
          let on : covers block (header_run v ag) ≡ true =
          and_from (nat_le (ag * v.agblocks) block) (nat_lt block (ag * v.agblocks + 1)) (le-leb (ag * v.agblocks) block (omega (arith, at))) (lt-ltb block (ag * v.agblocks + 1) (omega (arith, at))) in
          member_any (covers block) (header_run v ag) (fixed_runs v)
          (inr (member_map (header_run v) ag (range_with_len 0 v.agcount) (member_row ag 0 v.agcount (omega arith) (omega (arith, low))))) on
      | inr of_log ↦ member_any (covers block) (log_run v) (fixed_runs v) (inl refl) of_log
    ]
  where
    few : (ag : ℕ) → ag * g.agblocks ≡ block → ag < g.agcount
    few ag at = elim (cases_lt ag g.agcount) [
      | inl low ↦ low
      | inr above ↦
          let most : g.agcount * g.agblocks ≤ ag * g.agblocks = mul-le-mul_right g.agblocks above in
          let covered = g.shape.groups.covered in
          absurd (omega (arith, most, covered, at, inside))
    ]

pub at_most : (t : Bool) → one_if t ≤ 1
at_most true = omega arith
at_most false = omega arith

module _ (g : Geometry) (clusters : List ClusterRec) (files : List FileRec) (can : CanBeSalvaged (volume_of g) clusters files) where
  abbrev test : FileRec → Bool
  test = is_kept_file (volume_of g) clusters files

  abbrev of_clusters' : List Run
  of_clusters' = map run_of_cluster (kept_clusters (volume_of g) clusters files)

  abbrev of_files : List Run
  of_files = flat_map (file_runs (volume_of g)) (kept_files (volume_of g) clusters files)

  tallies : Tallies (is_in (spans_of (fixed_runs (volume_of g)))) (map (file_claim (volume_of g)) files) (claims_held (volume_of g) clusters files)
  unfolding claims_held
  tallies = kept_tallies (claims_in (volume_of g) clusters files) (files_differ (volume_of g) 0 files can.files_claim) (claims_apart (volume_of g) 0 files can.files_claim)

  -- how many of what is taken have a block
  total : (b : ℕ) → one_if (is_in (spans_of (fixed_runs (volume_of g))) b) + runs_on (taken_in (volume_of g) clusters files) b ≤ one_if ((claims_held (volume_of g) clusters files).blocks b)
  unfolding taken_in kept_files
  total b =
      let v : Volume = volume_of g in
      let all = tallies.each b in
      let sums : runs_on (taken_in v clusters files) b ≡ runs_on of_clusters' b + runs_on of_files b = sum_by-append (λ (r : Run). if covers b r then 1 else 0) of_clusters' of_files in
      let first = clusters_are (kept_clusters v clusters files) b in
      let rest : runs_on of_files b ≤ files_on (is_among (claims_held v clusters files).files) (map (file_claim v) files) b =
      files_upto v test (is_among (claims_held v clusters files).files) (λ f is. (and_parts (is_among (claims_held v clusters files).files f.ino) _ is).0) files b in
      omega (arith, all, sums, first, rest)

  clusters_end : AllByRecursion (λ k. k + 4 ≤ g.dblocks) (kept_clusters (volume_of g) clusters files)
  unfolding claims_held
  clusters_end = kept_all (λ k. k + 4 ≤ g.dblocks) (claims_in (volume_of g) clusters files) can.root (end_by g.dblocks 0 clusters can.clusters_lie)

  taken_claim : (r : Run) → Member r (taken_in (volume_of g) clusters files) → IsClaimedRun g.dblocks r
  unfolding taken_in kept_files
  taken_claim r is =
      let v : Volume = volume_of g in
      elim (member_either r of_clusters' of_files is) [
        | inl first ↦
            let of = map_member run_of_cluster r (kept_clusters v clusters files) first in
            subst (IsClaimedRun g.dblocks) of.2 (cluster_claim g.dblocks of.0 (member_all (λ k. k + 4 ≤ g.dblocks) of.0 (kept_clusters v clusters files) clusters_end of.1))
        | inr second ↦
            let of = flat_member (file_runs v) r (kept_files v clusters files) second in
            let among = filter_member test of.0 files of.1 in
            let file = member_all (CanClaim v) of.0 files (each_can v 0 files can.files_claim) among.0 in
            member_all (IsClaimedRun g.dblocks) r (file_runs v of.0) (recursion_from_All (IsClaimedRun g.dblocks) (file_runs v of.0) (file_claims g of.0 file)) of.2
      ]

  taken_clear : (r : Run) → Member r (taken_in (volume_of g) clusters files) → IsOffFixed (volume_of g) r
  taken_clear r is block on = false_from_ne_true (is_fixed (volume_of g) block) (λ fixed.
      let taken : List Run = taken_in (volume_of g) clusters files in
      let claim = taken_claim r is in
      let end = claim.inside in
      let parts = and_parts (nat_le r.start block) (nat_lt block (r.start + r.count)) on in
      let high = ltb-true block (r.start + r.count) parts.1 in
      let one : one_if (is_in (spans_of (fixed_runs (volume_of g))) block) ≡ 1 = ap one_if (fixed_covered g block (omega (arith, end, high)) fixed) in
      let some : 1 ≤ runs_on taken block = member_on r taken block is on in
      let upto = total block in
      let most = at_most ((claims_held (volume_of g) clusters files).blocks block) in
      omega (arith, one, some, upto, most))

  pub are_kept : CanBeKept (volume_of g) (taken_in (volume_of g) clusters files)
  are_kept =
      let taken : List Run = taken_in (volume_of g) clusters files in
      record {
        each = All-from_recursion (IsClaimedRun g.dblocks) taken (all_members (IsClaimedRun g.dblocks) taken taken_claim);
        clear = All-from_recursion (IsOffFixed (volume_of g)) taken (all_members (IsOffFixed (volume_of g)) taken taken_clear);
        apart = record { once = λ b. let upto = total b in let most = at_most ((claims_held (volume_of g) clusters files).blocks b) in omega (arith, upto, most) };
      }
