-- What is guarded is kept: every step over the claims leaves a guarded cluster and its file alone, or keeps them.
use Rattle.std.proofs.Common.{◌≡◌, ℕ, Bool, true, false, not, cond, ◌+◌, ◌⊎◌, inl, inr, ◌==◌, nat_le, nat_lt, List, [], ◌∷◌, refl, sym, ◌∙◌, subst}
use Rattle.std.specs.List.{AllByRecursion}
use Rattle.std.proofs.lemmas.Bool.{and_from, eq-eqb, le-leb, lt-ltb, not_from_false, or_from, or_left, or_right}
use Rattle.xfs_disk.specs.Lists.{is_in_range, is_among, with_number}
use Rattle.xfs_collections.specs.Blocks.{run_has, is_in, meets}
use Rattle.xfs_collections.proofs.Meeting.{meets_none}
use Rattle.xfs_claims.specs.declared.claimants.FileClaim.{FileClaim}
use Rattle.xfs_claims.specs.Keeping.{Holding, cluster_span, is_kept, with_cluster, with_clusters, with_file, with_files}
use Rattle.xfs_claims.specs.Spans.{meets_any, spans_of, with_blocks}
use Rattle.xfs_claims.proofs.Numbers.{among_more}
use Rattle.xfs_image.specs.Claims.{AreDisjointSets, is_of_cluster}
use Rattle.xfs_views.specs.Guarded.{claimed_by}
use Rattle.xfs_views.proofs.Members.{Member}

-- what has no block in common with a set does not meet it
cluster_off : (k : ℕ) (set : ℕ → Bool) → AreDisjointSets (is_of_cluster k) set → meets set k 4 ≡ false
cluster_off k set apart = meets_none set k 4 (λ b low high. apart b (and_from (nat_le k b) (nat_lt b (k + 4)) (le-leb k b low) (lt-ltb b (k + 4) high)))

spans_off : (spans : List (ℕ × ℕ)) (set : ℕ → Bool) → AreDisjointSets (is_in spans) set → meets_any set spans ≡ false
spans_off [] set apart = refl
spans_off (run ∷ rest) set apart =
    or_from (meets set run.0 run.1) (meets_any set rest)
    (meets_none set run.0 run.1
    (λ b low high. apart b (or_left (run_has b run) (is_in rest b) (and_from (nat_le run.0 b) (nat_lt b (run.0 + run.1)) (le-leb run.0 b low) (lt-ltb b (run.0 + run.1) high)))))
    (spans_off rest set (λ b e. apart b (or_right (run_has b run) (is_in rest b) e)))

-- some blocks stay apart from what is held where they are apart from what is looked at
cluster_leaves : (blocks : ℕ → Bool) (held : Holding) (j : ℕ) → AreDisjointSets blocks held.blocks → AreDisjointSets blocks (is_of_cluster j) → AreDisjointSets blocks (with_cluster held j).blocks
cluster_leaves blocks held j apart other b e = by_case (meets held.blocks j 4)
  where
    by_case : (t : Bool) → (cond t held (record { blocks = with_blocks held.blocks (cluster_span j); clusters = with_number j held.clusters; files = held.files })).blocks b ≡ false
    by_case true = apart b e
    by_case false = or_from (is_in (cluster_span j) b) (held.blocks b) (or_from (is_in_range j 4 b) false (other b e) refl) (apart b e)

file_leaves : (blocks : ℕ → Bool) (held : Holding) (g : FileClaim) → AreDisjointSets blocks held.blocks → AreDisjointSets blocks (claimed_by g) → AreDisjointSets blocks (with_file held g).blocks
file_leaves blocks held g apart other b e = by_case (is_kept held g)
  where
    by_case : (t : Bool) → (cond t (record { blocks = with_blocks held.blocks (spans_of g.runs); clusters = held.clusters; files = with_number g.ino held.files }) held).blocks b ≡ false
    by_case true = or_from (is_in (spans_of g.runs) b) (held.blocks b) (other b e) (apart b e)
    by_case false = apart b e

-- what is kept stays kept
more_numbers : (n m : ℕ) (numbers : List ℕ) → is_among numbers m ≡ true → is_among (with_number n numbers) m ≡ true
more_numbers n m numbers is = among_more n numbers m ∙ or_right (n == m) (is_among numbers m) is

one_number : (n m : ℕ) (numbers : List ℕ) → n ≡ m → is_among (with_number n numbers) m ≡ true
one_number n m numbers same = among_more n numbers m ∙ or_left (n == m) (is_among numbers m) (eq-eqb n m same)

cluster_stays : (k : ℕ) (held : Holding) (j : ℕ) → is_among held.clusters k ≡ true → is_among (with_cluster held j).clusters k ≡ true
cluster_stays k held j is = by_case (meets held.blocks j 4)
  where
    by_case : (t : Bool) → is_among (cond t held (record { blocks = with_blocks held.blocks (cluster_span j); clusters = with_number j held.clusters; files = held.files })).clusters k ≡ true
    by_case true = is
    by_case false = more_numbers j k held.clusters is

cluster_stays_on : (k : ℕ) (held : Holding) (g : FileClaim) → is_among held.clusters k ≡ true → is_among (with_file held g).clusters k ≡ true
cluster_stays_on k held g is = by_case (is_kept held g)
  where
    by_case : (t : Bool) → is_among (cond t (record { blocks = with_blocks held.blocks (spans_of g.runs); clusters = held.clusters; files = with_number g.ino held.files }) held).clusters k ≡ true
    by_case true = is
    by_case false = is

file_stays : (ino : ℕ) (held : Holding) (j : ℕ) → is_among held.files ino ≡ true → is_among (with_cluster held j).files ino ≡ true
file_stays ino held j is = by_case (meets held.blocks j 4)
  where
    by_case : (t : Bool) → is_among (cond t held (record { blocks = with_blocks held.blocks (cluster_span j); clusters = with_number j held.clusters; files = held.files })).files ino ≡ true
    by_case true = is
    by_case false = is

file_stays_on : (ino : ℕ) (held : Holding) (g : FileClaim) → is_among held.files ino ≡ true → is_among (with_file held g).files ino ≡ true
file_stays_on ino held g is = by_case (is_kept held g)
  where
    by_case : (t : Bool) → is_among (cond t (record { blocks = with_blocks held.blocks (spans_of g.runs); clusters = held.clusters; files = with_number g.ino held.files }) held).files ino ≡ true
    by_case true = more_numbers g.ino ino held.files is
    by_case false = is

-- a cluster, and a file, that meets nothing is kept
cluster_taken : (held : Holding) (j : ℕ) → AreDisjointSets (is_of_cluster j) held.blocks → is_among (with_cluster held j).clusters j ≡ true
cluster_taken held j apart = rw (cluster_off j held.blocks apart) (one_number j j held.clusters refl)

kept_alone : (held : Holding) (g : FileClaim) → is_among held.clusters g.cluster ≡ true → AreDisjointSets (claimed_by g) held.blocks → is_kept held g ≡ true
kept_alone held g stands apart = and_from (is_among held.clusters g.cluster) (not (meets_any held.blocks (spans_of g.runs))) stands (not_from_false (meets_any held.blocks (spans_of g.runs)) (spans_off (spans_of g.runs) held.blocks apart))

file_taken : (held : Holding) (g : FileClaim) → is_kept held g ≡ true → is_among (with_file held g).files g.ino ≡ true
file_taken held g kept = rw kept (one_number g.ino g.ino held.files refl)

-- the cluster is kept, or nothing that is held has a block of it; likewise the file
abbrev pub ClusterSafe : ℕ → Holding → Type 0
ClusterSafe k held = (is_among held.clusters k ≡ true) ⊎ AreDisjointSets (is_of_cluster k) held.blocks

abbrev pub FileSafe : FileClaim → Holding → Type 0
FileSafe f held = (is_among held.files f.ino ≡ true) ⊎ AreDisjointSets (claimed_by f) held.blocks

-- another cluster is this one or has no block of it; another file has the same number or claims no block of it
abbrev pub OtherCluster : ℕ → ℕ → Type 0
OtherCluster k j = (j ≡ k) ⊎ AreDisjointSets (is_of_cluster k) (is_of_cluster j)

abbrev pub OtherFile : FileClaim → FileClaim → Type 0
OtherFile f g = (g.ino ≡ f.ino) ⊎ AreDisjointSets (claimed_by f) (claimed_by g)

cluster_by_cluster : (k : ℕ) (held : Holding) (j : ℕ) → OtherCluster k j → ClusterSafe k held → ClusterSafe k (with_cluster held j)
cluster_by_cluster k held j other safe =
    elim safe [
      | inl is ↦ inl (cluster_stays k held j is)
      | inr apart ↦ elim other [
        | inl same ↦ inl (subst (λ (n : ℕ). is_among (with_cluster held n).clusters k ≡ true) (sym same) (cluster_taken held k apart))
        | inr off ↦ inr (cluster_leaves (is_of_cluster k) held j apart off)
      ]
    ]

pub cluster_by_clusters : (k : ℕ) (held : Holding) (js : List ℕ) → AllByRecursion (OtherCluster k) js → ClusterSafe k held → ClusterSafe k (with_clusters held js)
cluster_by_clusters k held [] others safe = safe
cluster_by_clusters k held (j ∷ js) others safe = cluster_by_clusters k (with_cluster held j) js others.1 (cluster_by_cluster k held j others.0 safe)

pub cluster_by_files : (k : ℕ) (held : Holding) (gs : List FileClaim) → AllByRecursion (λ g. AreDisjointSets (is_of_cluster k) (claimed_by g)) gs → ClusterSafe k held → ClusterSafe k (with_files held gs)
cluster_by_files k held [] others safe = safe
cluster_by_files k held (g ∷ gs) others safe = cluster_by_files k (with_file held g) gs others.1 next
  where
    next : ClusterSafe k (with_file held g)
    next = elim safe [ inl is ↦ inl (cluster_stays_on k held g is) | inr apart ↦ inr (file_leaves (is_of_cluster k) held g apart others.0) ]

-- a cluster that is looked at is kept
pub cluster_reached : (k : ℕ) (held : Holding) (js : List ℕ) → Member k js → AllByRecursion (OtherCluster k) js → ClusterSafe k held → is_among (with_clusters held js).clusters k ≡ true
cluster_reached k held [] is others safe = absurd is
cluster_reached k held (j ∷ js) is others safe =
    elim is [
      | inl same ↦ stays js (with_cluster held j) (here same)
      | inr there ↦ cluster_reached k (with_cluster held j) js there others.1 (cluster_by_cluster k held j others.0 safe)
    ]
  where
    here : j ≡ k → is_among (with_cluster held j).clusters k ≡ true
    here same = elim safe [
      | inl is ↦ cluster_stays k held j is
      | inr apart ↦ subst (λ (n : ℕ). is_among (with_cluster held n).clusters k ≡ true) (sym same) (cluster_taken held k apart)
    ]

    stays : (rest : List ℕ) (now : Holding) → is_among now.clusters k ≡ true → is_among (with_clusters now rest).clusters k ≡ true
    stays [] now is = is
    stays (n ∷ rest) now is = stays rest (with_cluster now n) (cluster_stays k now n is)

pub clusters_stay : (k : ℕ) (held : Holding) (gs : List FileClaim) → is_among held.clusters k ≡ true → is_among (with_files held gs).clusters k ≡ true
clusters_stay k held [] is = is
clusters_stay k held (g ∷ gs) is = clusters_stay k (with_file held g) gs (cluster_stays_on k held g is)

pub clusters_stay_on : (k : ℕ) (held : Holding) (js : List ℕ) → is_among held.clusters k ≡ true → is_among (with_clusters held js).clusters k ≡ true
clusters_stay_on k held [] is = is
clusters_stay_on k held (j ∷ js) is = clusters_stay_on k (with_cluster held j) js (cluster_stays k held j is)

-- the same for a file
pub file_by_clusters : (f : FileClaim) (held : Holding) (js : List ℕ) → AllByRecursion (λ j. AreDisjointSets (claimed_by f) (is_of_cluster j)) js → FileSafe f held → FileSafe f (with_clusters held js)
file_by_clusters f held [] others safe = safe
file_by_clusters f held (j ∷ js) others safe = file_by_clusters f (with_cluster held j) js others.1 next
  where
    next : FileSafe f (with_cluster held j)
    next = elim safe [ inl is ↦ inl (file_stays f.ino held j is) | inr apart ↦ inr (cluster_leaves (claimed_by f) held j apart others.0) ]

file_by_file : (f : FileClaim) (held : Holding) (g : FileClaim) → OtherFile f g → FileSafe f held → FileSafe f (with_file held g)
file_by_file f held g other safe =
    elim safe [
      | inl is ↦ inl (file_stays_on f.ino held g is)
      | inr apart ↦ elim other [
        | inl same ↦ by_case (is_kept held g) refl same apart
        | inr off ↦ inr (file_leaves (claimed_by f) held g apart off)
      ]
    ]
  where
    by_case : (t : Bool) → is_kept held g ≡ t → g.ino ≡ f.ino → AreDisjointSets (claimed_by f) held.blocks → FileSafe f (with_file held g)
    by_case true e same apart = inl (subst (λ (n : ℕ). is_among (with_file held g).files n ≡ true) same (file_taken held g e))
    by_case false e same apart = inr (rw e apart)

pub file_by_files : (f : FileClaim) (held : Holding) (gs : List FileClaim) → AllByRecursion (OtherFile f) gs → FileSafe f held → FileSafe f (with_files held gs)
file_by_files f held [] others safe = safe
file_by_files f held (g ∷ gs) others safe = file_by_files f (with_file held g) gs others.1 (file_by_file f held g others.0 safe)

pub files_stay : (ino : ℕ) (held : Holding) (gs : List FileClaim) → is_among held.files ino ≡ true → is_among (with_files held gs).files ino ≡ true
files_stay ino held [] is = is
files_stay ino held (g ∷ gs) is = files_stay ino (with_file held g) gs (file_stays_on ino held g is)

pub files_stay_on : (ino : ℕ) (held : Holding) (js : List ℕ) → is_among held.files ino ≡ true → is_among (with_clusters held js).files ino ≡ true
files_stay_on ino held [] is = is
files_stay_on ino held (j ∷ js) is = files_stay_on ino (with_cluster held j) js (file_stays ino held j is)

pub file_reached : (f : FileClaim) (held : Holding) (gs : List FileClaim) → Member f gs → is_among held.clusters f.cluster ≡ true → AllByRecursion (OtherFile f) gs → FileSafe f held
    → is_among (with_files held gs).files f.ino ≡ true
file_reached f held [] is stands others safe = absurd is
file_reached f held (g ∷ gs) is stands others safe =
    elim is [
      | inl same ↦ files_stay f.ino (with_file held g) gs (here same)
      | inr there ↦ file_reached f (with_file held g) gs there (cluster_stays_on f.cluster held g stands) others.1 (file_by_file f held g others.0 safe)
    ]
  where
    here : g ≡ f → is_among (with_file held g).files f.ino ≡ true
    here same = elim safe [
      | inl is ↦ file_stays_on f.ino held g is
      | inr apart ↦ subst (λ (x : FileClaim). is_among (with_file held x).files f.ino ≡ true) (sym same) (file_taken held f (kept_alone held f stands apart))
    ]
