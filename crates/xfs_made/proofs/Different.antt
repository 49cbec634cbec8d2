-- The claimants of claims whose clusters and files differ have different names.
use Rattle.std.proofs.Common.{◌≡◌, ℕ, Bool, true, false, not, cond, inl, inr, ◌&&◌, ◌||◌, ◌==◌, nat_lt, List, [], ◌∷◌, ◌++◌, map, refl, sym, ◌∙◌, ap, subst}
use Rattle.std.specs.List.{filter, list_any}
use Rattle.std.proofs.lemmas.Bool.{and_parts, both_ways, eq-eqb, eqb-false, eqb-true, false_from_ne_true, ne_eqb, not-true, or_from, or_parts}
use Rattle.std.proofs.lemmas.List.Folds.{list_any-append}
use Rattle.xfs_disk.specs.Lists.{is_among}
use Rattle.xfs_collections.specs.Blocks.{is_in}
use Rattle.xfs_volume.specs.declared.clusters.ClusterRec.{ClusterRec}
use Rattle.xfs_claims.specs.declared.claimants.Claims.{Claims}
use Rattle.xfs_claims.specs.declared.claimants.FileClaim.{FileClaim}
use Rattle.xfs_claims.specs.Keeping.{Holding, fixed_alone, kept_of, with_clusters, with_files}
use Rattle.xfs_claims.specs.Ranks.{AreDifferent, by_number, first_block, claimed_number, is_other_recorded, is_recorded_cluster, is_scanned_cluster, lies_in_recorded, lies_in_scanned, own_number, placed_by_number, recorded_clusters, recorded_files, scanned_clusters, scanned_files}
use Rattle.xfs_claims.specs.Spans.{spans_of}
use Rattle.xfs_claims.proofs.Ordered.{filter_differ, map_differ}
use Rattle.xfs_made.proofs.xfs_views.Members.{Member, any_member, filter_member, map_member, member_any}
use Rattle.xfs_made.specs.Ranked.{AreKeptByRank, Claimant, is_held, ranked}
use Rattle.xfs_made.specs.Ranked.Claimant.{Cluster, File}
use Rattle.xfs_made.proofs.Steps.{AreFresh, AreTold, fresh_then, kept_by_rank, same, steps, steps_clusters, steps_files, steps_then}

or_none : (x : Bool) → (x || false) ≡ x
or_none true = refl
or_none false = refl

-- an order keeps which items there are, and that they differ
or_swap : (x y z : Bool) → (x || (y || z)) ≡ (y || (x || z))
or_swap true true z = refl
or_swap true false z = refl
or_swap false true z = refl
or_swap false false z = refl

any_placed : {X : Type 0} (test : X → Bool) (number : X → ℕ) (x : X) (ys : List X) → list_any test (placed_by_number number x ys) ≡ (test x || list_any test ys)
any_placed test number x [] = refl
any_placed {X = X} test number x (y ∷ ys) = by_case (nat_lt (number y) (number x)) (any_placed test number x ys)
  where
    by_case : (t : Bool) → list_any test (placed_by_number number x ys) ≡ (test x || list_any test ys)
        → list_any test (cond t (y ∷ placed_by_number number x ys) (x ∷ y ∷ ys)) ≡ (test x || (test y || list_any test ys))
    by_case true rest = ap (λ (s : Bool). test y || s) rest ∙ or_swap (test y) (test x) (list_any test ys)
    by_case false rest = refl

any_ordered : {X : Type 0} (test : X → Bool) (number : X → ℕ) (xs : List X) → list_any test (by_number number xs) ≡ list_any test xs
any_ordered test number [] = refl
any_ordered test number (x ∷ xs) = any_placed test number x (by_number number xs) ∙ ap (λ (s : Bool). test x || s) (any_ordered test number xs)

placed_differ : {X : Type 0} (number : X → ℕ) (x : X) (ys : List X) → list_any (λ y. number y == number x) ys ≡ false → AreDifferent number ys → AreDifferent number (placed_by_number number x ys)
placed_differ number x [] none differ = (refl, tt)
placed_differ {X = X} number x (y ∷ ys) none differ =
    let parts = or_parts (number y == number x) (list_any (λ z. number z == number x) ys) none in
    let other : (number x == number y) ≡ false = ne_eqb (number x) (number y) (λ e. eqb-false (number y) (number x) parts.0 (sym e)) in
    by_case (nat_lt (number y) (number x)) other (placed_differ number x ys parts.1 differ.1)
  where
    by_case : (t : Bool) → (number x == number y) ≡ false → AreDifferent number (placed_by_number number x ys) → AreDifferent number (cond t (y ∷ placed_by_number number x ys) (x ∷ y ∷ ys))
    by_case true other rest = (any_placed (λ z. number z == number y) number x ys ∙ or_from (number x == number y) (list_any (λ z. number z == number y) ys) other differ.0, rest)
    by_case false other rest = (none, differ)

ordered_differ : {X : Type 0} (number : X → ℕ) (xs : List X) → AreDifferent number xs → AreDifferent number (by_number number xs)
ordered_differ number [] differ = tt
ordered_differ number (x ∷ xs) differ =
    placed_differ number x (by_number number xs) (any_ordered (λ y. number y == number x) number xs ∙ differ.0) (ordered_differ number xs differ.1)

-- items of one number are one
one_item : {X : Type 0} (number : X → ℕ) (x y : X) (xs : List X) → AreDifferent number xs → Member x xs → Member y xs → number x ≡ number y → x ≡ y
one_item number x y [] differ is of e = absurd is
one_item number x y (z ∷ zs) differ is of e =
    elim is [
      | inl first ↦ elim of [
        | inl second ↦ sym first ∙ second
        | inr there ↦ absurd (both_ways (list_any (λ w. number w == number z) zs) differ.0
            (member_any (λ w. number w == number z) y zs there (eq-eqb (number y) (number z) (sym e ∙ ap number (sym first)))))
      ]
      | inr here ↦ elim of [
        | inl second ↦ absurd (both_ways (list_any (λ w. number w == number z) zs) differ.0
            (member_any (λ w. number w == number z) x zs here (eq-eqb (number x) (number z) (e ∙ ap number (sym second)))))
        | inr there ↦ one_item number x y zs differ.1 here there e
      ]
    ]

none_any : {X : Type 0} (test : X → Bool) (xs : List X) → ((x : X) → Member x xs → test x ≡ false) → list_any test xs ≡ false
none_any test [] each = refl
none_any test (x ∷ xs) each = or_from (test x) (list_any test xs) (each x (inl refl)) (none_any test xs (λ y is. each y (inr is)))

-- an ordered list has just the items of the list
placed_member : {X : Type 0} (number : X → ℕ) (x z : X) (zs : List X) → Member x (placed_by_number number z zs) → Member x (z ∷ zs)
placed_member number x z [] is = is
placed_member {X = X} number x z (y ∷ ys) is = by_case (nat_lt (number y) (number z)) (placed_member number x z ys) is
  where
    by_case : (t : Bool) → (Member x (placed_by_number number z ys) → Member x (z ∷ ys)) → Member x (cond t (y ∷ placed_by_number number z ys) (z ∷ y ∷ ys)) → Member x (z ∷ y ∷ ys)
    by_case true rest h = elim h [
      | inl here ↦ inr (inl here)
      | inr there ↦ elim (rest there) [ inl first ↦ inl first | inr behind ↦ inr (inr behind) ]
    ]
    by_case false rest h = h

ordered_member : {X : Type 0} (number : X → ℕ) (x : X) (xs : List X) → Member x (by_number number xs) → Member x xs
ordered_member number x [] is = is
ordered_member number x (y ∷ ys) is = elim (placed_member number x y (by_number number ys) is) [ inl here ↦ inl here | inr there ↦ inr (ordered_member number x ys there) ]

-- claimants of different numbers are fresh
fresh_clusters : (done : List Claimant) (ks : List ℕ) → AreDifferent own_number ks → ((k : ℕ) → Member k ks → list_any (λ y. same y (Cluster k)) done ≡ false) → AreFresh done (map Cluster ks)
fresh_clusters done [] differ off = tt
fresh_clusters done (k ∷ ks) differ off = (off k (inl refl), fresh_clusters (done ++ Cluster k ∷ []) ks differ.1 behind)
  where
    behind : (j : ℕ) → Member j ks → list_any (λ y. same y (Cluster j)) (done ++ Cluster k ∷ []) ≡ false
    behind j is =
        list_any-append (λ y. same y (Cluster j)) done (Cluster k ∷ [])
        ∙ or_from (list_any (λ y. same y (Cluster j)) done) ((k == j) || false) (off j (inr is))
        (or_from (k == j) false (ne_eqb k j (λ e. both_ways (list_any (λ m. m == k) ks) differ.0 (member_any (λ m. m == k) j ks is (eq-eqb j k (sym e))))) refl)

fresh_files : (done : List Claimant) (fs : List FileClaim) → AreDifferent claimed_number fs → ((f : FileClaim) → Member f fs → list_any (λ y. same y (File f)) done ≡ false) → AreFresh done (map File fs)
fresh_files done [] differ off = tt
fresh_files done (f ∷ fs) differ off = (off f (inl refl), fresh_files (done ++ File f ∷ []) fs differ.1 behind)
  where
    behind : (g : FileClaim) → Member g fs → list_any (λ y. same y (File g)) (done ++ File f ∷ []) ≡ false
    behind g is =
        list_any-append (λ y. same y (File g)) done (File f ∷ [])
        ∙ or_from (list_any (λ y. same y (File g)) done) ((f.ino == g.ino) || false) (off g (inr is))
        (or_from (f.ino == g.ino) false (ne_eqb f.ino g.ino (λ e. both_ways (list_any (λ m. claimed_number m == f.ino) fs) differ.0 (member_any (λ m. claimed_number m == f.ino) g fs is (eq-eqb g.ino f.ino (sym e))))) refl)

-- no claimant of a kind has the name of one of another
no_file : (k : ℕ) (fs : List FileClaim) → list_any (λ y. same y (Cluster k)) (map File fs) ≡ false
no_file k [] = refl
no_file k (f ∷ fs) = no_file k fs

no_cluster : (f : FileClaim) (ks : List ℕ) → list_any (λ y. same y (File f)) (map Cluster ks) ≡ false
no_cluster f [] = refl
no_cluster f (k ∷ ks) = no_cluster f ks

of_clusters : (k : ℕ) (ks : List ℕ) → list_any (λ y. same y (Cluster k)) (map Cluster ks) ≡ is_among ks k
of_clusters k [] = refl
of_clusters k (j ∷ ks) = ap (λ (t : Bool). (j == k) || t) (of_clusters k ks)

of_files : (f : FileClaim) (fs : List FileClaim) → list_any (λ y. same y (File f)) (map File fs) ≡ list_any (λ g. claimed_number g == f.ino) fs
of_files f [] = refl
of_files f (g ∷ fs) = ap (λ (t : Bool). (g.ino == f.ino) || t) (of_files f fs)

module _ (claims : Claims) (root : is_recorded_cluster claims.clusters claims.root ≡ true) (clusters_differ : AreDifferent first_block claims.clusters) (files_differ : AreDifferent claimed_number claims.files) where
  -- a cluster of a rank is one of the claims' that passes the test of the rank
  of_rank : (test : ClusterRec → Bool) (k : ℕ) → Member k (by_number own_number (map first_block (filter test claims.clusters)))
      → (c : ClusterRec) × Member c claims.clusters × (test c ≡ true) × (c.block ≡ k)
  of_rank test k is =
      let from = map_member first_block k (filter test claims.clusters) (ordered_member own_number k (map first_block (filter test claims.clusters)) is) in
      let among = filter_member test from.0 claims.clusters from.1 in
      (from.0, among.0, among.1, from.2)

  rank_differs : (test : ClusterRec → Bool) → AreDifferent own_number (by_number own_number (map first_block (filter test claims.clusters)))
  rank_differs test =
      ordered_differ own_number (map first_block (filter test claims.clusters)) (map_differ first_block (filter test claims.clusters) (filter_differ first_block test claims.clusters clusters_differ))

  root_alone : list_any (λ k. own_number k == claims.root) (recorded_clusters claims) ≡ false
  root_alone = none_any (λ k. own_number k == claims.root) (recorded_clusters claims) (λ k is.
      let from = of_rank (is_other_recorded claims.root) k is in
      let parts = and_parts from.0.recorded (not (from.0.block == claims.root)) from.2 in
      subst (λ (n : ℕ). (n == claims.root) ≡ false) from.3 (not-true (from.0.block == claims.root) parts.1))

  first_differ : AreDifferent own_number (claims.root ∷ recorded_clusters claims)
  first_differ = (root_alone, rank_differs (is_other_recorded claims.root))

  -- the clusters in front are recorded, and those behind are not
  recorded_is : (k : ℕ) → Member k (claims.root ∷ recorded_clusters claims) → (c : ClusterRec) × Member c claims.clusters × (c.recorded ≡ true) × (c.block ≡ k)
  recorded_is k is = elim is [
    | inl same' ↦
        let one = any_member (λ (c : ClusterRec). c.recorded && c.block == claims.root) claims.clusters root in
        let both = and_parts one.0.recorded (one.0.block == claims.root) one.2 in
        (one.0, one.1, both.0, eqb-true one.0.block claims.root both.1 ∙ same')
    | inr there ↦
        let from = of_rank (is_other_recorded claims.root) k there in
        let parts = and_parts from.0.recorded (not (from.0.block == claims.root)) from.2 in
        (from.0, from.1, parts.0, from.3)
  ]

  scanned_apart : (k : ℕ) → Member k (scanned_clusters claims) → is_among (claims.root ∷ recorded_clusters claims) k ≡ false
  scanned_apart k is = false_from_ne_true (is_among (claims.root ∷ recorded_clusters claims) k) (λ found.
      let one = any_member (λ m. m == k) (claims.root ∷ recorded_clusters claims) found in
      let named : one.0 ≡ k = eqb-true one.0 k one.2 in
      let front = recorded_is one.0 one.1 in
      let back = of_rank is_scanned_cluster k is in
      let item : front.0 ≡ back.0 = one_item first_block front.0 back.0 claims.clusters clusters_differ front.1 back.1 (front.3 ∙ named ∙ sym back.3) in
      both_ways front.0.recorded (ap (λ (c : ClusterRec). c.recorded) item ∙ not-true back.0.recorded back.2) front.2)

  files_apart : (f : FileClaim) → Member f (scanned_files claims) → list_any (λ g. claimed_number g == f.ino) (recorded_files claims) ≡ false
  files_apart f is = false_from_ne_true (list_any (λ g. claimed_number g == f.ino) (recorded_files claims)) (λ found.
      let one = any_member (λ g. claimed_number g == f.ino) (recorded_files claims) found in
      let front = filter_member (lies_in_recorded claims.clusters) one.0 claims.files (ordered_member claimed_number one.0 (filter (lies_in_recorded claims.clusters) claims.files) one.1) in
      let back = filter_member (lies_in_scanned claims.clusters) f claims.files (ordered_member claimed_number f (filter (lies_in_scanned claims.clusters) claims.files) is) in
      let item : one.0 ≡ f = one_item claimed_number one.0 f claims.files files_differ front.0 back.0 (eqb-true one.0.ino f.ino one.2) in
      both_ways (is_recorded_cluster claims.clusters one.0.cluster) (ap (λ (g : FileClaim). is_recorded_cluster claims.clusters g.cluster) item ∙ not-true (is_recorded_cluster claims.clusters f.cluster) back.1) front.1)

  ranked_fresh : AreFresh [] (ranked claims)
  ranked_fresh =
      fresh_then [] ((map Cluster (claims.root ∷ recorded_clusters claims) ++ map File (recorded_files claims)) ++ map Cluster (scanned_clusters claims)) (map File (scanned_files claims))
      (fresh_then [] (map Cluster (claims.root ∷ recorded_clusters claims) ++ map File (recorded_files claims)) (map Cluster (scanned_clusters claims))
      (fresh_then [] (map Cluster (claims.root ∷ recorded_clusters claims)) (map File (recorded_files claims))
      (fresh_clusters [] (claims.root ∷ recorded_clusters claims) first_differ (λ k is. refl))
      (fresh_files (map Cluster (claims.root ∷ recorded_clusters claims)) (recorded_files claims) (files_of (lies_in_recorded claims.clusters)) (λ f is. no_cluster f (claims.root ∷ recorded_clusters claims))))
      (fresh_clusters (map Cluster (claims.root ∷ recorded_clusters claims) ++ map File (recorded_files claims)) (scanned_clusters claims) (rank_differs is_scanned_cluster) (λ k is.
      list_any-append (λ y. same y (Cluster k)) (map Cluster (claims.root ∷ recorded_clusters claims)) (map File (recorded_files claims))
      ∙ or_from _ _ (of_clusters k (claims.root ∷ recorded_clusters claims) ∙ scanned_apart k is) (no_file k (recorded_files claims)))))
      (fresh_files ((map Cluster (claims.root ∷ recorded_clusters claims) ++ map File (recorded_files claims)) ++ map Cluster (scanned_clusters claims)) (scanned_files claims) (files_of (lies_in_scanned claims.clusters)) (λ f is.
      list_any-append (λ y. same y (File f)) (map Cluster (claims.root ∷ recorded_clusters claims) ++ map File (recorded_files claims)) (map Cluster (scanned_clusters claims))
      ∙ or_from _ _
      (list_any-append (λ y. same y (File f)) (map Cluster (claims.root ∷ recorded_clusters claims)) (map File (recorded_files claims))
      ∙ or_from _ _ (no_cluster f (claims.root ∷ recorded_clusters claims)) (of_files f (recorded_files claims) ∙ files_apart f is))
      (no_cluster f (scanned_clusters claims))))
    where
      files_of : (test : FileClaim → Bool) → AreDifferent claimed_number (by_number claimed_number (filter test claims.files))
      files_of test = ordered_differ claimed_number (filter test claims.files) (filter_differ claimed_number test claims.files files_differ)

  kept_is : kept_of claims ≡ steps (fixed_alone (spans_of claims.fixed)) (ranked claims)
  kept_is =
      let start : Holding = fixed_alone (spans_of claims.fixed) in
      let a : List Claimant = map Cluster (claims.root ∷ recorded_clusters claims) in
      let b : List Claimant = map File (recorded_files claims) in
      let c : List Claimant = map Cluster (scanned_clusters claims) in
      let d : List Claimant = map File (scanned_files claims) in
      sym (steps_then start ((a ++ b) ++ c) d
      ∙ ap (λ (h : Holding). steps h d) (steps_then start (a ++ b) c ∙ ap (λ (h : Holding). steps h c) (steps_then start a b
      ∙ ap (λ (h : Holding). steps h b) (steps_clusters start (claims.root ∷ recorded_clusters claims)) ∙ steps_files (with_clusters start (claims.root ∷ recorded_clusters claims)) (recorded_files claims))
      ∙ steps_clusters _ (scanned_clusters claims)) ∙ steps_files _ (scanned_files claims))

  pub ranked_kept : AreKeptByRank (is_in (spans_of claims.fixed)) (ranked claims) (is_held (kept_of claims))
  ranked_kept =
      subst (λ (h : Holding). AreKeptByRank (is_in (spans_of claims.fixed)) (ranked claims) (is_held h)) (sym kept_is)
      (kept_by_rank (is_in (spans_of claims.fixed)) (fixed_alone (spans_of claims.fixed)) (ranked claims)
      (record { blocks = λ b. sym (or_none (is_in (spans_of claims.fixed) b)); clusters = λ k. refl; none = λ x missing. nothing_held x }) ranked_fresh)
    where
      nothing_held : (x : Claimant) → is_held (fixed_alone (spans_of claims.fixed)) x ≡ false
      nothing_held (Cluster k) = refl
      nothing_held (File f) = refl
