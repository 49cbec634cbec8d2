-- The cluster of a guarded file and the file are kept of all claims.
use Rattle.std.proofs.Common.{◌≡◌, ℕ, Bool, true, false, not, cond, ◌+◌, ◌≤◌, ◌<◌, inl, inr, ◌&&◌, ◌==◌, nat_le, nat_lt, List, [], ◌∷◌, map, refl, sym, ◌∙◌, subst, arith}
use Rattle.std.specs.List.{AllByRecursion, filter}
use Rattle.std.proofs.lemmas.Bool.{and_from, and_parts, cases_eq, eqb-true, false≢true, leb-true, ltb-true, ne_eqb, not_from_false, or_cases, or_parts}
use Rattle.std.proofs.lemmas.Bool.Decides.{nat_tests}
use Rattle.xfs_disk.specs.Lists.{is_among}
use Rattle.xfs_collections.specs.Blocks.{is_in}
use Rattle.xfs_volume.specs.declared.clusters.ClusterRec.{ClusterRec}
use Rattle.xfs_claims.specs.declared.claimants.Claims.{Claims}
use Rattle.xfs_claims.specs.declared.claimants.FileClaim.{FileClaim}
use Rattle.xfs_claims.specs.Keeping.{Holding, fixed_alone, kept_of, with_clusters, with_files}
use Rattle.xfs_claims.specs.Ranks.{by_number, first_block, claimed_number, is_other_recorded, is_recorded_cluster, is_scanned_cluster, lies_in_recorded, lies_in_scanned, own_number, recorded_clusters, recorded_files, scanned_clusters, scanned_files}
use Rattle.xfs_claims.specs.Spans.{spans_of}
use Rattle.xfs_claims.proofs.Ordered.{to_order}
use Rattle.xfs_image.specs.Candidates.{ClustersAscend}
use Rattle.xfs_image.specs.Claims.{AreDisjointSets, is_of_cluster}
use Rattle.xfs_views.specs.Guarded.{IsGuarded, claimed_by, has_cluster, has_claim, has_claim_beside, is_of_any}
use Rattle.xfs_views.proofs.Kept.{ClusterSafe, FileSafe, OtherCluster, OtherFile, cluster_by_clusters, cluster_by_files, cluster_reached, clusters_stay, clusters_stay_on, file_by_clusters, file_by_files, file_reached, files_stay, files_stay_on}
use Rattle.xfs_views.proofs.Members.{Member, any_member, member_all, member_any, member_filter, member_map, member_order}

second : (x y : Bool) → x ≡ true → (x && y) ≡ false → y ≡ false
second true y is none = none
second false y is none = absurd (false≢true is)

-- no other file claims a block of the file
pub other_files : (f : FileClaim) (files : List FileClaim) → AreDisjointSets (claimed_by f) (has_claim_beside files f.ino) → AllByRecursion (OtherFile f) files
other_files f [] alone = tt
other_files f (g ∷ gs) alone = (here, other_files f gs (λ b e. (parts b e).1))
  where
    parts : (b : ℕ) → claimed_by f b ≡ true → ((not (g.ino == f.ino) && claimed_by g b) ≡ false) × (has_claim_beside gs f.ino b ≡ false)
    parts b e = or_parts (not (g.ino == f.ino) && claimed_by g b) (has_claim_beside gs f.ino b) (alone b e)

    here : OtherFile f g
    here =
        elim (cases_eq g.ino f.ino) [
          | inl same ↦ inl same
          | inr other ↦ inr (λ b e. second (not (g.ino == f.ino)) (claimed_by g b) (not_from_false (g.ino == f.ino) (ne_eqb g.ino f.ino other)) (parts b e).0)
        ]

apart_clusters : (blocks : ℕ → Bool) (clusters : List ClusterRec) → AreDisjointSets blocks (is_of_any clusters)
    → AllByRecursion (λ (c : ClusterRec). AreDisjointSets blocks (is_of_cluster c.block)) clusters
apart_clusters blocks [] apart = tt
apart_clusters blocks (c ∷ cs) apart = (
  λ b e. (or_parts (is_of_cluster c.block b) (is_of_any cs b) (apart b e)).0,
  apart_clusters blocks cs (λ b e. (or_parts (is_of_cluster c.block b) (is_of_any cs b) (apart b e)).1),
)

apart_files : (blocks : ℕ → Bool) (files : List FileClaim) → AreDisjointSets blocks (has_claim files) → AllByRecursion (λ g. AreDisjointSets blocks (claimed_by g)) files
apart_files blocks [] apart = tt
apart_files blocks (g ∷ gs) apart =
    (λ b e. (or_parts (claimed_by g b) (has_claim gs b) (apart b e)).0, apart_files blocks gs (λ b e. (or_parts (claimed_by g b) (has_claim gs b) (apart b e)).1))

-- clusters that ascend have no block in common
cluster_parts : (k b : ℕ) → is_of_cluster k b ≡ true → (k ≤ b) × (b < k + 4)
cluster_parts k b e = let both = and_parts (nat_le k b) (nat_lt b (k + 4)) e in (leb-true k b both.0, ltb-true b (k + 4) both.1)

apart_below : (k j : ℕ) → j + 4 ≤ k → AreDisjointSets (is_of_cluster k) (is_of_cluster j)
apart_below k j below b e = let at = cluster_parts k b e in let low = at.0 in grind (arith, nat_tests, low, below)

apart_above : (k j : ℕ) → k + 4 ≤ j → AreDisjointSets (is_of_cluster k) (is_of_cluster j)
apart_above k j above b e = let at = cluster_parts k b e in let high = at.1 in grind (arith, nat_tests, high, above)

behind : (k low : ℕ) (cs : List ClusterRec) → k + 4 ≤ low → ClustersAscend low cs → AllByRecursion (λ (c : ClusterRec). OtherCluster k c.block) cs
behind k low [] le up = tt
behind k low (c ∷ cs) le up =
    let first = up.0 in
    (inr (apart_above k c.block (omega (arith, le, first))), behind k (c.block + 4) cs (omega (arith, le, first)) up.1)

upward : (k low : ℕ) (cs : List ClusterRec) → ClustersAscend low cs → has_cluster cs k ≡ true → low ≤ k
upward k low [] up has = absurd (false≢true has)
upward k low (c ∷ cs) up has =
    let first = up.0 in
    elim (or_cases (c.block == k) (has_cluster cs k) has) [
      | inl here ↦ let same = eqb-true c.block k here in omega (arith, first, same)
      | inr there ↦ let later = upward k (c.block + 4) cs up.1 there in omega (arith, first, later)
    ]

pub other_clusters : (k low : ℕ) (cs : List ClusterRec) → ClustersAscend low cs → has_cluster cs k ≡ true → AllByRecursion (λ (c : ClusterRec). OtherCluster k c.block) cs
other_clusters k low [] up has = tt
other_clusters k low (c ∷ cs) up has =
    elim (or_cases (c.block == k) (has_cluster cs k) has) [
      | inl here ↦ let same = eqb-true c.block k here in (inl same, behind k (c.block + 4) cs (omega (arith, same)) up.1)
      | inr there ↦ let later = upward k (c.block + 4) cs up.1 there in (inr (apart_below k c.block later), other_clusters k (c.block + 4) cs up.1 there)
    ]

-- what holds of all claimants holds of those of a rank
filtered : {X : Type 0} (P : X → Type 0) (test : X → Bool) (xs : List X) → AllByRecursion P xs → AllByRecursion P (filter test xs)
filtered P test [] all = tt
filtered {X = X} P test (x ∷ xs) all = either (test x) (filtered P test xs all.1)
  where
    either : (t : Bool) → AllByRecursion P (filter test xs) → AllByRecursion P (cond t (x ∷ filter test xs) (filter test xs))
    either true rest = (all.0, rest)
    either false rest = rest

mapped : {X Y : Type 0} (P : Y → Type 0) (f : X → Y) (xs : List X) → AllByRecursion (λ x. P (f x)) xs → AllByRecursion P (map f xs)
mapped P f [] all = tt
mapped P f (x ∷ xs) all = (all.0, mapped P f xs all.1)

clusters_in_order : (P : ℕ → Type 0) (test : ClusterRec → Bool) (cs : List ClusterRec) → AllByRecursion (λ (c : ClusterRec). P c.block) cs
    → AllByRecursion P (by_number own_number (map first_block (filter test cs)))
clusters_in_order P test cs all =
    to_order own_number P (map first_block (filter test cs)) (mapped P first_block (filter test cs) (filtered (λ (c : ClusterRec). P c.block) test cs all))

files_in_order : (P : FileClaim → Type 0) (test : FileClaim → Bool) (fs : List FileClaim) → AllByRecursion P fs → AllByRecursion P (by_number claimed_number (filter test fs))
files_in_order P test fs all = to_order claimed_number P (filter test fs) (filtered P test fs all)

of_root : (P : ℕ → Type 0) (root : ℕ) (cs : List ClusterRec) → is_recorded_cluster cs root ≡ true → AllByRecursion (λ (c : ClusterRec). P c.block) cs → P root
of_root P root cs recorded all =
    let one = any_member (λ (c : ClusterRec). c.recorded && c.block == root) cs recorded in
    let both = and_parts one.0.recorded (one.0.block == root) one.2 in
    subst P (eqb-true one.0.block root both.1) (member_all (λ (c : ClusterRec). P c.block) one.0 cs all one.1)

-- a recorded cluster is the root's or one of the others, and another one is scanned
recorded_member : (claims : Claims) (k : ℕ) → is_recorded_cluster claims.clusters k ≡ true → Member k (claims.root ∷ recorded_clusters claims)
recorded_member claims k recorded =
    let one = any_member (λ (c : ClusterRec). c.recorded && c.block == k) claims.clusters recorded in
    let both = and_parts one.0.recorded (one.0.block == k) one.2 in
    let same : one.0.block ≡ k = eqb-true one.0.block k both.1 in
    elim (cases_eq one.0.block claims.root) [
      | inl root ↦ inl (sym root ∙ same)
      | inr other ↦
          let test = is_other_recorded claims.root in
          let passes : test one.0 ≡ true = and_from one.0.recorded (not (one.0.block == claims.root)) both.0 (not_from_false (one.0.block == claims.root) (ne_eqb one.0.block claims.root other)) in
          inr (subst (λ (n : ℕ). Member n (recorded_clusters claims)) same
          (member_order own_number one.0.block (map first_block (filter test claims.clusters))
          (member_map first_block one.0 (filter test claims.clusters) (member_filter test one.0 claims.clusters one.1 passes))))
    ]

scanned_member : (claims : Claims) (k : ℕ) → has_cluster claims.clusters k ≡ true → is_recorded_cluster claims.clusters k ≡ false → Member k (scanned_clusters claims)
scanned_member claims k has unrecorded =
    let one = any_member (λ (c : ClusterRec). c.block == k) claims.clusters has in
    let same : one.0.block ≡ k = eqb-true one.0.block k one.2 in
    subst (λ (n : ℕ). Member n (scanned_clusters claims)) same
    (member_order own_number one.0.block (map first_block (filter is_scanned_cluster claims.clusters))
    (member_map first_block one.0 (filter is_scanned_cluster claims.clusters) (member_filter is_scanned_cluster one.0 claims.clusters one.1 (is_not one.0.recorded one.0 refl one.2 one.1))))
  where
    is_not : (t : Bool) → (c : ClusterRec) → c.recorded ≡ t → (c.block == k) ≡ true → Member c claims.clusters → not t ≡ true
    is_not false c e block is = refl
    is_not true c e block is =
        sym unrecorded ∙ member_any (λ (d : ClusterRec). d.recorded && d.block == k) c claims.clusters is (and_from c.recorded (c.block == k) e block)

-- the cluster and the file are kept
pub record AreKept (claims : Claims) (file : FileClaim) : Type 0 where
  pub cluster : is_among (kept_of claims).clusters file.cluster ≡ true
  pub file_kept : is_among (kept_of claims).files file.ino ≡ true

-- a guarded file of claims whose clusters ascend, the root's recorded among them
pub record IsSet (claims : Claims) (file : FileClaim) : Type 0 where
  pub root : is_recorded_cluster claims.clusters claims.root ≡ true
  pub up : ClustersAscend 0 claims.clusters
  pub is : Member file claims.files
  pub has : has_cluster claims.clusters file.cluster ≡ true
  pub guarded : IsGuarded (is_in (spans_of claims.fixed)) claims.clusters claims.files file

module _ (claims : Claims) (file : FileClaim) (set : IsSet claims file) where
  abbrev k : ℕ
  k = file.cluster

  abbrev first : Holding
  first = with_clusters (fixed_alone (spans_of claims.fixed)) (claims.root ∷ recorded_clusters claims)

  abbrev middle : Holding
  middle = with_files first (recorded_files claims)

  abbrev third : Holding
  third = with_clusters middle (scanned_clusters claims)

  others : AllByRecursion (λ (c : ClusterRec). OtherCluster k c.block) claims.clusters
  others = other_clusters k 0 claims.clusters set.up set.has

  first_others : AllByRecursion (OtherCluster k) (claims.root ∷ recorded_clusters claims)
  first_others = (of_root (OtherCluster k) claims.root claims.clusters set.root others, clusters_in_order (OtherCluster k) (is_other_recorded claims.root) claims.clusters others)

  outside : AllByRecursion (λ (c : ClusterRec). AreDisjointSets (claimed_by file) (is_of_cluster c.block)) claims.clusters
  outside = apart_clusters (claimed_by file) claims.clusters set.guarded.outside

  first_outside : AllByRecursion (λ j. AreDisjointSets (claimed_by file) (is_of_cluster j)) (claims.root ∷ recorded_clusters claims)
  first_outside = (
    of_root (λ j. AreDisjointSets (claimed_by file) (is_of_cluster j)) claims.root claims.clusters set.root outside,
    clusters_in_order (λ j. AreDisjointSets (claimed_by file) (is_of_cluster j)) (is_other_recorded claims.root) claims.clusters outside,
  )

  files : AllByRecursion (OtherFile file) claims.files
  files = other_files file claims.files set.guarded.alone

  fixed_safe : ClusterSafe k (fixed_alone (spans_of claims.fixed))
  fixed_safe = inr set.guarded.cluster_unfixed

  first_safe : FileSafe file first
  first_safe = file_by_clusters file (fixed_alone (spans_of claims.fixed)) (claims.root ∷ recorded_clusters claims) first_outside (inr set.guarded.unfixed)

  middle_file : FileSafe file middle
  middle_file = file_by_files file first (recorded_files claims) (files_in_order (OtherFile file) (lies_in_recorded claims.clusters) claims.files files) first_safe

  middle_cluster : ClusterSafe k middle
  middle_cluster =
      cluster_by_files k first (recorded_files claims)
      (files_in_order (λ g. AreDisjointSets (is_of_cluster k) (claimed_by g)) (lies_in_recorded claims.clusters) claims.files (apart_files (is_of_cluster k) claims.files set.guarded.cluster_unclaimed))
      (cluster_by_clusters k (fixed_alone (spans_of claims.fixed)) (claims.root ∷ recorded_clusters claims) first_others fixed_safe)

  in_recorded : is_recorded_cluster claims.clusters k ≡ true → AreKept claims file
  in_recorded recorded =
      let one : is_among first.clusters k ≡ true =
      cluster_reached k (fixed_alone (spans_of claims.fixed)) (claims.root ∷ recorded_clusters claims) (recorded_member claims k recorded) first_others fixed_safe in
      let file_is : Member file (recorded_files claims) =
      member_order claimed_number file (filter (lies_in_recorded claims.clusters) claims.files) (member_filter (lies_in_recorded claims.clusters) file claims.files set.is recorded) in
      let two : is_among middle.files file.ino ≡ true =
      file_reached file first (recorded_files claims) file_is one (files_in_order (OtherFile file) (lies_in_recorded claims.clusters) claims.files files) first_safe in
      record {
        cluster =
            clusters_stay k third (scanned_files claims) (clusters_stay_on k middle (scanned_clusters claims) (clusters_stay k first (recorded_files claims) one));
        file_kept = files_stay file.ino third (scanned_files claims) (files_stay_on file.ino middle (scanned_clusters claims) two);
      }

  in_scanned : is_recorded_cluster claims.clusters k ≡ false → AreKept claims file
  in_scanned unrecorded =
      let one : is_among third.clusters k ≡ true =
      cluster_reached k middle (scanned_clusters claims) (scanned_member claims k set.has unrecorded) (clusters_in_order (OtherCluster k) is_scanned_cluster claims.clusters others) middle_cluster in
      let safe : FileSafe file third =
      file_by_clusters file middle (scanned_clusters claims) (clusters_in_order (λ j. AreDisjointSets (claimed_by file) (is_of_cluster j)) is_scanned_cluster claims.clusters outside) middle_file in
      let file_is : Member file (scanned_files claims) =
      member_order claimed_number file (filter (lies_in_scanned claims.clusters) claims.files)
      (member_filter (lies_in_scanned claims.clusters) file claims.files set.is (not_from_false (is_recorded_cluster claims.clusters k) unrecorded)) in
      record {
        cluster = clusters_stay k third (scanned_files claims) one;
        file_kept = file_reached file third (scanned_files claims) file_is one (files_in_order (OtherFile file) (lies_in_scanned claims.clusters) claims.files files) safe;
      }

  pub are_kept : AreKept claims file
  are_kept = by_case (is_recorded_cluster claims.clusters k) refl
    where
      by_case : (t : Bool) → is_recorded_cluster claims.clusters k ≡ t → AreKept claims file
      by_case true e = in_recorded e
      by_case false e = in_scanned e
