-- Claimants are kept one after the other: what the holding says after some of them.
use Rattle.std.proofs.Common.{◌≡◌, ℕ, Bool, true, false, not, cond, ◌+◌, inl, inr, ◌&&◌, ◌||◌, ◌==◌, List, [], ◌∷◌, ◌++◌, map, refl, sym, ◌∙◌, ap, ap₂, subst, append-nil}
use Rattle.std.specs.List.{list_any}
use Rattle.std.proofs.lemmas.Bool.{eq-eqb, eqb-false, ne_eqb, or_cases, or_from, or_left, or_parts}
use Rattle.std.proofs.lemmas.List.{append_assoc}
use Rattle.std.proofs.lemmas.List.Folds.{list_any-append}
use Rattle.xfs_disk.specs.Lists.{is_in_range, is_among, with_number}
use Rattle.xfs_collections.specs.Blocks.{run_has, is_in, meets}
use Rattle.xfs_claims.specs.declared.claimants.FileClaim.{FileClaim}
use Rattle.xfs_claims.specs.Keeping.{Holding, cluster_span, fixed_alone, is_kept, with_cluster, with_clusters, with_file, with_files}
use Rattle.xfs_claims.specs.Spans.{meets_any, spans_of, with_blocks}
use Rattle.xfs_claims.proofs.Numbers.{among_more}
use Rattle.xfs_made.proofs.xfs_views.Members.{Member}
use Rattle.xfs_made.specs.Ranked.{AreKeptByRank, Claimant, is_cluster_at, is_held, is_kept_block, lies_in_kept, spans_claimed}
use Rattle.xfs_made.specs.Ranked.Claimant.{Cluster, File}

-- one claimant after the other
abbrev pub step : Holding → Claimant → Holding
step held (Cluster block) = with_cluster held block
step held (File file) = with_file held file

abbrev pub steps : Holding → List Claimant → Holding
steps held [] = held
steps held (x ∷ xs) = steps (step held x) xs

pub steps_then : (held : Holding) (xs ys : List Claimant) → steps held (xs ++ ys) ≡ steps (steps held xs) ys
steps_then held [] ys = refl
steps_then held (x ∷ xs) ys = steps_then (step held x) xs ys

pub steps_clusters : (held : Holding) (ks : List ℕ) → steps held (map Cluster ks) ≡ with_clusters held ks
steps_clusters held [] = refl
steps_clusters held (k ∷ ks) = steps_clusters (with_cluster held k) ks

pub steps_files : (held : Holding) (fs : List FileClaim) → steps held (map File fs) ≡ with_files held fs
steps_files held [] = refl
steps_files held (f ∷ fs) = steps_files (with_file held f) fs

-- two claimants have one name: clusters with the same first block, files of the same number
abbrev pub same : Claimant → Claimant → Bool
same (Cluster j) (Cluster k) = j == k
same (Cluster j) (File f) = false
same (File g) (Cluster k) = false
same (File g) (File f) = g.ino == f.ino

other_way : (j k : ℕ) → (j == k) ≡ false → (k == j) ≡ false
other_way j k e = ne_eqb k j (λ h. eqb-false j k e (sym h))

flipped : (x y : Claimant) → same x y ≡ false → same y x ≡ false
flipped (Cluster j) (Cluster k) e = other_way j k e
flipped (Cluster j) (File f) e = refl
flipped (File g) (Cluster k) e = refl
flipped (File g) (File f) e = other_way g.ino f.ino e

-- a claimant that is looked at where it can be kept
abbrev pub is_turn : Holding → Claimant → Bool
is_turn held (Cluster block) = not (meets_any held.blocks (cluster_span block))
is_turn held (File file) = is_kept held file

more_number : (n m : ℕ) (ns : List ℕ) → (n == m) ≡ false → is_among (with_number n ns) m ≡ is_among ns m
more_number n m ns other = among_more n ns m ∙ ap (λ (t : Bool). t || is_among ns m) other

own_number : (n : ℕ) (ns : List ℕ) → is_among (with_number n ns) n ≡ true
own_number n ns = among_more n ns n ∙ or_left (n == n) (is_among ns n) (eq-eqb n n refl)

-- what a step does to the blocks and the names that are held
abbrev after_cluster : Bool → Holding → ℕ → Holding
after_cluster t held k = cond t held (record { blocks = with_blocks held.blocks (cluster_span k); clusters = with_number k held.clusters; files = held.files })

abbrev after_file : Bool → Holding → FileClaim → Holding
after_file t held g = cond t (record { blocks = with_blocks held.blocks (spans_of g.runs); clusters = held.clusters; files = with_number g.ino held.files }) held

step_blocks : (held : Holding) (x : Claimant) (b : ℕ) → (step held x).blocks b ≡ ((is_turn held x && is_in (spans_claimed x) b) || held.blocks b)
step_blocks held (Cluster k) b = by_case (meets held.blocks k 4)
  where
    by_case : (t : Bool) → (after_cluster t held k).blocks b ≡ ((not (t || false) && is_in (cluster_span k) b) || held.blocks b)
    by_case true = refl
    by_case false = refl
step_blocks held (File g) b = by_case (is_kept held g)
  where
    by_case : (t : Bool) → (after_file t held g).blocks b ≡ ((t && is_in (spans_of g.runs) b) || held.blocks b)
    by_case true = refl
    by_case false = refl

step_other : (held : Holding) (y x : Claimant) → same y x ≡ false → is_held (step held y) x ≡ is_held held x
step_other held (Cluster k) (Cluster j) other = by_case (meets held.blocks k 4)
  where
    by_case : (t : Bool) → is_among (after_cluster t held k).clusters j ≡ is_among held.clusters j
    by_case true = refl
    by_case false = more_number k j held.clusters other
step_other held (Cluster k) (File f) other = by_case (meets held.blocks k 4)
  where
    by_case : (t : Bool) → is_among (after_cluster t held k).files f.ino ≡ is_among held.files f.ino
    by_case true = refl
    by_case false = refl
step_other held (File g) (Cluster j) other = by_case (is_kept held g)
  where
    by_case : (t : Bool) → is_among (after_file t held g).clusters j ≡ is_among held.clusters j
    by_case true = refl
    by_case false = refl
step_other held (File g) (File f) other = by_case (is_kept held g)
  where
    by_case : (t : Bool) → is_among (after_file t held g).files f.ino ≡ is_among held.files f.ino
    by_case true = more_number g.ino f.ino held.files other
    by_case false = refl

or_true : (x : Bool) → (x || true) ≡ true
or_true true = refl
or_true false = refl

or_none : (x : Bool) → (x || false) ≡ x
or_none true = refl
or_none false = refl

step_own : (held : Holding) (x : Claimant) → is_held (step held x) x ≡ (is_held held x || is_turn held x)
step_own held (Cluster k) = by_case (meets held.blocks k 4)
  where
    by_case : (t : Bool) → is_among (after_cluster t held k).clusters k ≡ (is_among held.clusters k || not (t || false))
    by_case true = sym (or_none (is_among held.clusters k))
    by_case false = own_number k held.clusters ∙ sym (or_true (is_among held.clusters k))
step_own held (File g) = by_case (is_kept held g)
  where
    by_case : (t : Bool) → is_among (after_file t held g).files g.ino ≡ (is_among held.files g.ino || t)
    by_case true = own_number g.ino held.files ∙ sym (or_true (is_among held.files g.ino))
    by_case false = sym (or_none (is_among held.files g.ino))

-- what is held of clusters
step_cluster : (held : Holding) (x : Claimant) (k : ℕ) → is_among (step held x).clusters k ≡ ((is_turn held x && is_cluster_at k x) || is_among held.clusters k)
step_cluster held (Cluster j) k = by_case (meets held.blocks j 4)
  where
    by_case : (t : Bool) → is_among (after_cluster t held j).clusters k ≡ ((not (t || false) && j == k) || is_among held.clusters k)
    by_case true = refl
    by_case false = among_more j held.clusters k
step_cluster held (File g) k = by_case (is_kept held g)
  where
    by_case : (t : Bool) → is_among (after_file t held g).clusters k ≡ ((t && false) || is_among held.clusters k)
    by_case true = refl
    by_case false = refl

-- the claimants differ from one another and from those before
abbrev pub AreFresh : List Claimant → List Claimant → Type 0
AreFresh done [] = Unit {0}
AreFresh done (x ∷ xs) = (list_any (λ y. same y x) done ≡ false) × AreFresh (done ++ x ∷ []) xs

pub fresh_then : (done xs ys : List Claimant) → AreFresh done xs → AreFresh (done ++ xs) ys → AreFresh done (xs ++ ys)
fresh_then done [] ys first rest = subst (λ (zs : List Claimant). AreFresh zs ys) (append-nil done) rest
fresh_then done (x ∷ xs) ys first rest =
    (first.0, fresh_then (done ++ x ∷ []) xs ys first.1 (subst (λ (zs : List Claimant). AreFresh zs ys) (sym (append_assoc done (x ∷ []) xs)) rest))

fresh_parts : (done xs ys : List Claimant) → AreFresh done (xs ++ ys) → AreFresh done xs × AreFresh (done ++ xs) ys
fresh_parts done [] ys all = (tt, subst (λ (zs : List Claimant). AreFresh zs ys) (sym (append-nil done)) all)
fresh_parts done (x ∷ xs) ys all =
    let rest = fresh_parts (done ++ x ∷ []) xs ys all.1 in
    ((all.0, rest.0), subst (λ (zs : List Claimant). AreFresh zs ys) (append_assoc done (x ∷ []) xs) rest.1)

none_of : (x : Claimant) (xs : List Claimant) (z : Claimant) → list_any (λ y. same y x) xs ≡ false → Member z xs → same z x ≡ false
none_of x [] z none is = absurd is
none_of x (y ∷ ys) z none is =
    let parts = or_parts (same y x) (list_any (λ w. same w x) ys) none in
    elim is [ inl here ↦ subst (λ (w : Claimant). same w x ≡ false) here parts.0 | inr there ↦ none_of x ys z parts.1 there ]

member_before : (z : Claimant) (xs ys : List Claimant) → Member z xs → Member z (xs ++ ys)
member_before z [] ys is = absurd is
member_before z (x ∷ xs) ys is = elim is [ inl here ↦ inl here | inr there ↦ inr (member_before z xs ys there) ]

-- none behind has the name of one before
none_behind : (done xs : List Claimant) (z : Claimant) → AreFresh done xs → Member z done → list_any (λ y. same y z) xs ≡ false
none_behind done [] z fresh is = refl
none_behind done (x ∷ xs) z fresh is =
    or_from (same x z) (list_any (λ y. same y z) xs) (flipped z x (none_of x done z fresh.0 is)) (none_behind (done ++ x ∷ []) xs z fresh.1 (member_before z done (x ∷ []) is))

pub steps_other : (held : Holding) (ys : List Claimant) (x : Claimant) → list_any (λ y. same y x) ys ≡ false → is_held (steps held ys) x ≡ is_held held x
steps_other held [] x none = refl
steps_other held (y ∷ ys) x none =
    let parts = or_parts (same y x) (list_any (λ w. same w x) ys) none in
    steps_other (step held y) ys x parts.1 ∙ step_other held y x parts.0

any_same : (p q : Claimant → Bool) (xs : List Claimant) → ((y : Claimant) → Member y xs → p y ≡ q y) → list_any p xs ≡ list_any q xs
any_same p q [] each = refl
any_same p q (x ∷ xs) each = ap₂ (λ (s t : Bool). s || t) (each x (inl refl)) (any_same p q xs (λ y is. each y (inr is)))

-- what is held after some claimants, by these
pub record AreTold (fixed : ℕ → Bool) (done : List Claimant) (held : Holding) : Type 0 where
  pub blocks : (b : ℕ) → held.blocks b ≡ is_kept_block fixed (is_held held) done b
  pub clusters : (k : ℕ) → is_among held.clusters k ≡ list_any (λ x. is_held held x && is_cluster_at k x) done
  pub none : (x : Claimant) → list_any (λ y. same y x) done ≡ false → is_held held x ≡ false

turned : (f a t c : Bool) → ((t && c) || (f || a)) ≡ (f || (a || ((t && c) || false)))
turned true a t c = or_true (t && c)
turned false true t c = or_true (t && c)
turned false false true true = refl
turned false false true false = refl
turned false false false c = refl

moved : (a t c : Bool) → ((t && c) || a) ≡ (a || ((t && c) || false))
moved true t c = or_true (t && c)
moved false true true = refl
moved false true false = refl
moved false false c = refl

pub told_step : (fixed : ℕ → Bool) (done : List Claimant) (held : Holding) (x : Claimant) → list_any (λ y. same y x) done ≡ false → AreTold fixed done held
    → AreTold fixed (done ++ x ∷ []) (step held x)
told_step fixed done held x fresh so = record { blocks = blocks; clusters = clusters; none = none }
  where
    -- those before are held as they were, and this one where it is its turn
    before : (test : Claimant → Bool) → list_any (λ y. is_held (step held x) y && test y) done ≡ list_any (λ y. is_held held y && test y) done
    before test = any_same (λ y. is_held (step held x) y && test y) (λ y. is_held held y && test y) done
        (λ y is. ap (λ (t : Bool). t && test y) (step_other held x y (flipped y x (none_of x done y fresh is))))

    own : is_held (step held x) x ≡ is_turn held x
    own = step_own held x ∙ ap (λ (t : Bool). t || is_turn held x) (so.none x fresh)

    all : (test : Claimant → Bool) → list_any (λ y. is_held (step held x) y && test y) (done ++ x ∷ [])
        ≡ (list_any (λ y. is_held held y && test y) done || ((is_turn held x && test x) || false))
    all test = list_any-append (λ y. is_held (step held x) y && test y) done (x ∷ [])
        ∙ ap₂ (λ (s t : Bool). s || ((t && test x) || false)) (before test) own

    blocks : (b : ℕ) → (step held x).blocks b ≡ is_kept_block fixed (is_held (step held x)) (done ++ x ∷ []) b
    blocks b =
        step_blocks held x b
        ∙ ap (λ (t : Bool). (is_turn held x && is_in (spans_claimed x) b) || t) (so.blocks b)
        ∙ turned (fixed b) (list_any (λ y. is_held held y && is_in (spans_claimed y) b) done) (is_turn held x) (is_in (spans_claimed x) b)
        ∙ ap (λ (t : Bool). fixed b || t) (sym (all (λ y. is_in (spans_claimed y) b)))

    clusters : (k : ℕ) → is_among (step held x).clusters k ≡ list_any (λ y. is_held (step held x) y && is_cluster_at k y) (done ++ x ∷ [])
    clusters k =
        step_cluster held x k
        ∙ ap (λ (t : Bool). (is_turn held x && is_cluster_at k x) || t) (so.clusters k)
        ∙ moved (list_any (λ y. is_held held y && is_cluster_at k y) done) (is_turn held x) (is_cluster_at k x)
        ∙ sym (all (is_cluster_at k))

    none : (y : Claimant) → list_any (λ z. same z y) (done ++ x ∷ []) ≡ false → is_held (step held x) y ≡ false
    none y missing =
        let both = or_parts (list_any (λ z. same z y) done) (list_any (λ z. same z y) (x ∷ [])) (sym (list_any-append (λ z. same z y) done (x ∷ [])) ∙ missing) in
        step_other held x y (or_parts (same x y) false both.1).0 ∙ so.none y both.0

pub told : (fixed : ℕ → Bool) (done xs : List Claimant) (held : Holding) → AreFresh done xs → AreTold fixed done held → AreTold fixed (done ++ xs) (steps held xs)
told fixed done [] held fresh so = subst (λ (zs : List Claimant). AreTold fixed zs held) (sym (append-nil done)) so
told fixed done (x ∷ xs) held fresh so =
    subst (λ (zs : List Claimant). AreTold fixed zs (steps (step held x) xs)) (append_assoc done (x ∷ []) xs)
    (told fixed (done ++ x ∷ []) xs (step held x) fresh.1 (told_step fixed done held x fresh.0 so))

blocks_told : (fixed : ℕ → Bool) (mid : Holding) (before : List Claimant) (kept : Claimant → Bool) → AreTold fixed before mid
    → ((y : Claimant) → Member y before → is_held mid y ≡ kept y) → mid.blocks ≡ is_kept_block fixed kept before
blocks_told fixed mid before kept so each = λ k b. (so.blocks b ∙ ap (λ (t : Bool). fixed b || t)
    (any_same (λ y. is_held mid y && is_in (spans_claimed y) b) (λ y. kept y && is_in (spans_claimed y) b) before (λ y is. ap (λ (t : Bool). t && is_in (spans_claimed y) b) (each y is)))) k

at_end : (x : Claimant) (xs : List Claimant) → Member x (xs ++ x ∷ [])
at_end x [] = inl refl
at_end x (y ∷ ys) = inr (at_end x ys)

-- the turn of a claimant, by what is told of those before
turn_told : (fixed : ℕ → Bool) (mid : Holding) (before : List Claimant) (x : Claimant) (kept : Claimant → Bool) → AreTold fixed before mid
    → ((y : Claimant) → Member y before → is_held mid y ≡ kept y)
    → is_turn mid x ≡ (lies_in_kept kept before x && not (meets_any (is_kept_block fixed kept before) (spans_claimed x)))
turn_told fixed mid before (Cluster k) kept so each = ap (λ (set : ℕ → Bool). not (meets_any set (cluster_span k))) (blocks_told fixed mid before kept so each)
turn_told fixed mid before (File g) kept so each =
    ap₂ (λ (t : Bool) (set : ℕ → Bool). t && not (meets_any set (spans_of g.runs)))
    (so.clusters g.cluster ∙ any_same (λ y. is_held mid y && is_cluster_at g.cluster y) (λ y. kept y && is_cluster_at g.cluster y) before (λ y is. ap (λ (t : Bool). t && is_cluster_at g.cluster y) (each y is)))
    (blocks_told fixed mid before kept so each)

-- at its turn each is kept just where it can be
turn_is : (fixed : ℕ → Bool) (held : Holding) (before after : List Claimant) (x : Claimant) → AreTold fixed [] held → AreFresh [] (before ++ x ∷ after)
    → is_held (steps held (before ++ x ∷ after)) x
    ≡ (lies_in_kept (is_held (steps held (before ++ x ∷ after))) before x && not (meets_any (is_kept_block fixed (is_held (steps held (before ++ x ∷ after))) before) (spans_claimed x)))
turn_is fixed held before after x start fresh =
    let parts = fresh_parts [] before (x ∷ after) fresh in
    let mid : Holding = steps held before in
    let so : AreTold fixed before mid = told fixed [] before held parts.0 start in
    let end : steps held (before ++ x ∷ after) ≡ steps (step mid x) after = steps_then held before (x ∷ after) in
    let last : list_any (λ y. same y x) after ≡ false = none_behind (before ++ x ∷ []) after x parts.1.1 (at_end x before) in
    let same_before : (y : Claimant) → Member y before → is_held mid y ≡ is_held (steps held (before ++ x ∷ after)) y =
    λ y is. sym (ap (λ (h : Holding). is_held h y) end ∙ steps_other mid (x ∷ after) y (none_behind before (x ∷ after) y parts.1 is)) in
    ap (λ (h : Holding). is_held h x) end ∙ steps_other (step mid x) after x last ∙ step_own mid x ∙ ap (λ (t : Bool). t || is_turn mid x) (so.none x parts.1.0)
    ∙ turn_told fixed mid before x (is_held (steps held (before ++ x ∷ after))) so same_before

-- so each is kept in its turn
pub kept_by_rank : (fixed : ℕ → Bool) (held : Holding) (claimants : List Claimant) → AreTold fixed [] held → AreFresh [] claimants
    → AreKeptByRank fixed claimants (is_held (steps held claimants))
kept_by_rank fixed held claimants start fresh = record {
  rule = λ before after x is.
      let P : List Claimant → Type 0 =
      λ zs. is_held (steps held zs) x ≡ (lies_in_kept (is_held (steps held zs)) before x && not (meets_any (is_kept_block fixed (is_held (steps held zs)) before) (spans_claimed x))) in
      subst P (sym is) (turn_is fixed held before after x start (subst (AreFresh []) is fresh));
}
