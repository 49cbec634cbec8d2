-- How many runs are looked at, and where clusters end.
use Rattle.std.proofs.Common.{◌≡◌, ℕ, suc, Bool, true, false, not, cond, ◌+◌, ◌≤◌, inl, inr, ◌&&◌, ◌||◌, ◌==◌, nat_lt, List, [], ◌∷◌, map, length, refl, ◌∙◌, ap, subst, arith}
use Rattle.std.specs.List.{filter, All, AllByRecursion, sum_by}
use Rattle.std.proofs.lemmas.List.Elements.{All-from_recursion, recursion_from_All}
use Rattle.std.proofs.lemmas.List.Filters.{sum_by-filter_both}
use Rattle.std.proofs.lemmas.List.{length-map}
use Rattle.std.proofs.lemmas.Bool.{cases_lt, or_cases, and_parts, eqb-true, false≢true}
use Rattle.std.proofs.lemmas.Bool.Decides.{nat_tests}
use Rattle.xfs_volume.specs.declared.clusters.ClusterRec.{ClusterRec}
use Rattle.xfs_claims.specs.declared.claimants.Claims.{Claims}
use Rattle.xfs_claims.specs.Ranks.{placed_by_number, by_number, is_recorded_cluster, first_block, is_other_recorded, is_scanned_cluster, lies_in_recorded, lies_in_scanned, own_number, claimed_number, recorded_clusters, scanned_clusters, recorded_files, scanned_files, run_count}
use Rattle.xfs_claims.specs.Keeping.{EndsLow}
use Rattle.xfs_claims.proofs.Ordered.{sum_in_order, to_order}

length_placed : (n : ℕ) (ns : List ℕ) → length (placed_by_number own_number n ns) ≡ suc (length ns)
length_placed n [] = refl
length_placed n (m ∷ ns) =
    elim (cases_lt m n) [
      | inl lt ↦ let e : nat_lt m n ≡ true = grind (arith, nat_tests) in rw e (ap suc (length_placed n ns))
      | inr ge ↦ let e : nat_lt m n ≡ false = grind (arith, nat_tests) in rw e refl
    ]

length_in_order : (ns : List ℕ) → length (by_number own_number ns) ≡ length ns
length_in_order [] = refl
length_in_order (n ∷ ns) = length_placed n (by_number own_number ns) ∙ ap suc (length_in_order ns)

-- of one cluster: it is another recorded one, a scanned one or the root's
one_of : (recorded same : Bool) (n a b : ℕ) (t : Bool) → a + b + cond t 1 0 ≤ n
    → cond (recorded && not same) (suc a) a + cond (not recorded) (suc b) b + cond ((recorded && same) || t) 1 0 ≤ suc n
one_of true true n a b true h = omega (arith, h)
one_of true true n a b false h = omega (arith, h)
one_of true false n a b t h = omega (arith, h)
one_of false same n a b t h = omega (arith, h)

length_filter : {X : Type 0} (test : X → Bool) (x : X) (xs : List X) → length (filter test (x ∷ xs)) ≡ cond (test x) (suc (length (filter test xs))) (length (filter test xs))
length_filter {X = X} test x xs = either (test x)
  where
    either : (t : Bool) → length (cond t (x ∷ filter test xs) (filter test xs)) ≡ cond t (suc (length (filter test xs))) (length (filter test xs))
    either true = refl
    either false = refl

some_root : (root : ℕ) (clusters : List ClusterRec)
    → length (filter (is_other_recorded root) clusters) + length (filter is_scanned_cluster clusters) + cond (is_recorded_cluster clusters root) 1 0 ≤ length clusters
some_root root [] = omega arith
some_root root (c ∷ clusters) =
    let rest = some_root root clusters in
    rw (length_filter (is_other_recorded root) c clusters, length_filter is_scanned_cluster c clusters)
    (one_of c.recorded (c.block == root) (length clusters) (length (filter (is_other_recorded root) clusters)) (length (filter is_scanned_cluster clusters)) (is_recorded_cluster clusters root) rest)

-- the root's cluster, the other recorded ones and the scanned ones are no more than all
pub room : (claims : Claims) → is_recorded_cluster claims.clusters claims.root ≡ true → 1 + length (recorded_clusters claims) + length (scanned_clusters claims) ≤ length claims.clusters
room claims root =
    let all = some_root claims.root claims.clusters in
    let one : ◌≡◌ {A = ℕ} (cond (is_recorded_cluster claims.clusters claims.root) 1 0) 1 = rw root refl in
    let a = length_in_order (map first_block (filter (is_other_recorded claims.root) claims.clusters)) in
    let b = length_in_order (map first_block (filter is_scanned_cluster claims.clusters)) in
    let d = length-map (filter (is_other_recorded claims.root) claims.clusters) first_block in
    let e = length-map (filter is_scanned_cluster claims.clusters) first_block in
    omega (arith, all, one, a, b, d, e)

-- the files in recorded clusters and those in scanned ones are all
pub files_sum : (claims : Claims) → sum_by run_count (recorded_files claims) + sum_by run_count (scanned_files claims) ≡ sum_by run_count claims.files
files_sum claims =
    let a = sum_in_order claimed_number run_count (filter (lies_in_recorded claims.clusters) claims.files) in
    let b = sum_in_order claimed_number run_count (filter (lies_in_scanned claims.clusters) claims.files) in
    let both = sum_by-filter_both (lies_in_recorded claims.clusters) (lies_in_scanned claims.clusters) (λ f. refl) run_count claims.files in
    omega (arith, a, b, both)

-- what holds of each cluster holds of the root's
pub root_ends : (root : ℕ) (clusters : List ClusterRec) → AllByRecursion (λ c. EndsLow (first_block c)) clusters → is_recorded_cluster clusters root ≡ true → EndsLow root
root_ends root [] each found = absurd (false≢true found)
root_ends root (c ∷ clusters) each found =
    elim (or_cases (c.recorded && c.block == root) (is_recorded_cluster clusters root) found) [
      | inl here ↦ let same = eqb-true c.block root (and_parts c.recorded (c.block == root) here).1 in subst EndsLow same each.0
      | inr there ↦ root_ends root clusters each.1 there
    ]

kept_each : (test : ClusterRec → Bool) (clusters : List ClusterRec) → AllByRecursion (λ c. EndsLow (first_block c)) clusters → AllByRecursion EndsLow (map first_block (filter test clusters))
kept_each test [] each = tt
kept_each test (c ∷ clusters) each = either (test c) each.0 (kept_each test clusters each.1)
  where
    either : (t : Bool) → EndsLow (first_block c) → AllByRecursion EndsLow (map first_block (filter test clusters)) → AllByRecursion EndsLow (map first_block (cond t (c ∷ filter test clusters) (filter test clusters)))
    either true here rest = (here, rest)
    either false here rest = rest

-- and of those in order
pub ordered_end : (test : ClusterRec → Bool) (clusters : List ClusterRec) → All (λ c. EndsLow (first_block c)) clusters → All EndsLow (by_number own_number (map first_block (filter test clusters)))
ordered_end test clusters each =
    All-from_recursion EndsLow (by_number own_number (map first_block (filter test clusters)))
    (to_order own_number EndsLow (map first_block (filter test clusters)) (kept_each test clusters (recursion_from_All (λ (c : ClusterRec). EndsLow (first_block c)) clusters each)))
