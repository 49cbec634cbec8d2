-- Each block is of just one of what is fixed and held, or of none of it.
use Rattle.std.proofs.Common.{◌≡◌, ℕ, Bool, true, false, not, cond, ◌+◌, ◌≤◌, ◌<◌, inl, inr, ◌&&◌, ◌||◌, ◌==◌, nat_le, nat_lt, if◌then◌else◌, List, [], ◌∷◌, refl, sym, ◌∙◌, ap, ap₂, subst, arith}
use Rattle.std.specs.List.{AllByRecursion, filter, list_all, list_any}
use Rattle.std.proofs.lemmas.Bool.{and_from, and_parts, both_ways, cases_order, cond-true, eq-eqb, eqb-false, eqb-true, false_from_ne_true, false≢true, le-leb, leb-true, lt-ltb, ltb-true, ne_eqb, not-true, or_cases, or_left, or_parts}
use Rattle.std.proofs.lemmas.Bool.Decides.{nat_tests}
use Rattle.xfs_disk.specs.Lists.{is_in_range, is_among, with_number}
use Rattle.xfs_collections.specs.Blocks.{run_has, is_in, meets}
use Rattle.xfs_collections.proofs.Meeting.{unmet}
use Rattle.xfs_claims.specs.declared.claimants.Claims.{Claims}
use Rattle.xfs_claims.specs.declared.claimants.FileClaim.{FileClaim}
use Rattle.xfs_claims.specs.Keeping.{Holding, cluster_span, fixed_alone, is_kept, kept_of, with_cluster, with_clusters, with_file, with_files}
use Rattle.xfs_claims.specs.Ranks.{AreDifferent, by_number, claimed_number, lies_in_recorded, lies_in_scanned, recorded_clusters, recorded_files, scanned_clusters, scanned_files}
use Rattle.xfs_claims.specs.Spans.{SpansApart, spans_apart, meets_any, spans_of, with_blocks}
use Rattle.xfs_claims.proofs.Numbers.{among_more}
use Rattle.xfs_claims.proofs.Ordered.{to_order}
use Rattle.xfs_place.specs.Choice.{one_if}
use Rattle.xfs_made.proofs.xfs_views.Apart.{run_apart}
use Rattle.xfs_made.proofs.xfs_views.Members.{Member, all_members, filter_member, member_all, member_any}

-- how many of some clusters, of some runs, and of the runs of the files whose numbers pass a test have a block
abbrev pub clusters_on : List ℕ → ℕ → ℕ
clusters_on [] b = 0
clusters_on (k ∷ ks) b = one_if (is_in_range k 4 b) + clusters_on ks b

abbrev pub spans_on : List (ℕ × ℕ) → ℕ → ℕ
spans_on [] b = 0
spans_on (s ∷ ss) b = one_if (run_has b s) + spans_on ss b

abbrev pub part_of : Bool → List (ℕ × ℕ) → ℕ → ℕ
part_of test spans b = if test then spans_on spans b else 0

abbrev pub files_on : (ℕ → Bool) → List FileClaim → ℕ → ℕ
files_on test [] b = 0
files_on test (f ∷ fs) b = part_of (test f.ino) (spans_of f.runs) b + files_on test fs b

-- runs
none_spans : (ss : List (ℕ × ℕ)) (b : ℕ) → is_in ss b ≡ false → spans_on ss b ≡ 0
none_spans [] b off = refl
none_spans (s ∷ ss) b off =
    let parts = or_parts (run_has b s) (is_in ss b) off in
    let here : one_if (run_has b s) ≡ 0 = ap one_if parts.0 in
    let rest = none_spans ss b parts.1 in
    omega (arith, here, rest)

some_spans : (ss : List (ℕ × ℕ)) (b : ℕ) → is_in ss b ≡ true → 1 ≤ spans_on ss b
some_spans [] b on = absurd (false≢true on)
some_spans (s ∷ ss) b on =
    elim (or_cases (run_has b s) (is_in ss b) on) [
      | inl here ↦ let one : one_if (run_has b s) ≡ 1 = ap one_if here in omega (arith, one)
      | inr there ↦ let rest = some_spans ss b there in omega (arith, rest)
    ]

pub spans_once : (ss : List (ℕ × ℕ)) (b : ℕ) → SpansApart ss → spans_on ss b ≡ one_if (is_in ss b)
spans_once [] b apart = refl
spans_once (s ∷ ss) b apart = by_case (run_has b s) refl (spans_once ss b apart.1)
  where
    by_case : (t : Bool) → run_has b s ≡ t → spans_on ss b ≡ one_if (is_in ss b) → one_if (run_has b s) + spans_on ss b ≡ one_if (run_has b s || is_in ss b)
    by_case true e rest =
        let none = none_spans ss b (run_apart s ss b apart.0 e) in
        let here : one_if (run_has b s) ≡ 1 = ap one_if e in
        let both : one_if (run_has b s || is_in ss b) ≡ 1 = ap one_if (or_left (run_has b s) (is_in ss b) e) in
        omega (arith, none, here, both)
    by_case false e rest =
        let here : one_if (run_has b s) ≡ 0 = ap one_if e in
        let both : one_if (run_has b s || is_in ss b) ≡ one_if (is_in ss b) = ap (λ (t : Bool). one_if (t || is_in ss b)) e in
        omega (arith, rest, here, both)

spans_unmet : (ss : List (ℕ × ℕ)) (set : ℕ → Bool) (b : ℕ) → meets_any set ss ≡ false → is_in ss b ≡ true → set b ≡ false
spans_unmet [] set b off on = absurd (false≢true on)
spans_unmet (s ∷ ss) set b off on =
    let parts = or_parts (meets set s.0 s.1) (meets_any set ss) off in
    elim (or_cases (run_has b s) (is_in ss b) on) [
      | inl here ↦
          let at = and_parts (nat_le s.0 b) (nat_lt b (s.0 + s.1)) here in
          unmet set s.0 s.1 parts.0 b (leb-true s.0 b at.0) (ltb-true b (s.0 + s.1) at.1)
      | inr there ↦ spans_unmet ss set b parts.1 there
    ]

-- clusters
among_on : (ks : List ℕ) (k b : ℕ) → is_among ks k ≡ true → is_in_range k 4 b ≡ true → 1 ≤ clusters_on ks b
among_on [] k b is on = absurd (false≢true is)
among_on (j ∷ ks) k b is on =
    elim (or_cases (j == k) (is_among ks k) is) [
      | inl here ↦
          let one : one_if (is_in_range j 4 b) ≡ 1 = ap one_if (subst (λ (n : ℕ). is_in_range n 4 b ≡ true) (sym (eqb-true j k here)) on) in
          omega (arith, one)
      | inr there ↦ let rest = among_on ks k b there on in omega (arith, rest)
    ]

with_on : (k b : ℕ) (ks : List ℕ) → is_among ks k ≡ false → clusters_on (with_number k ks) b ≡ one_if (is_in_range k 4 b) + clusters_on ks b
with_on k b [] none = refl
with_on k b (m ∷ ms) none =
    let parts = or_parts (m == k) (is_among ms k) none in
    elim (cases_order k m) [
      | inl same ↦ absurd (eqb-false m k parts.0 (sym same))
      | inr other ↦ elim other [
        | inl lt ↦ let e : nat_lt k m ≡ true = grind (arith, nat_tests) in rw e refl
        | inr gt ↦ let e : nat_lt k m ≡ false = grind (arith, nat_tests) in
            let f : (k == m) ≡ false = grind (arith, nat_tests) in
            let rest = with_on k b ms parts.1 in
            rw (e, f) (omega (arith, rest))
      ]
    ]

-- files
files_same : (p q : ℕ → Bool) → ((n : ℕ) → p n ≡ q n) → (fs : List FileClaim) (b : ℕ) → files_on p fs b ≡ files_on q fs b
files_same p q same [] b = refl
files_same p q same (f ∷ fs) b = ap₂ (λ (t : Bool) (n : ℕ). part_of t (spans_of f.runs) b + n) (same f.ino) (files_same p q same fs b)

files_none : (fs : List FileClaim) (b : ℕ) → files_on (is_among []) fs b ≡ 0
files_none [] b = refl
files_none (f ∷ fs) b = let rest = files_none fs b in omega (arith, rest)

file_on : (test : ℕ → Bool) (f : FileClaim) (fs : List FileClaim) (b : ℕ) → Member f fs → test f.ino ≡ true → spans_on (spans_of f.runs) b ≤ files_on test fs b
file_on test f [] b is passes = absurd is
file_on test f (g ∷ gs) b is passes =
    elim is [
      | inl same ↦
          let here : part_of (test g.ino) (spans_of g.runs) b ≡ spans_on (spans_of f.runs) b =
          ap (λ (x : FileClaim). part_of (test x.ino) (spans_of x.runs) b) same ∙ cond-true (test f.ino) (spans_on (spans_of f.runs) b) 0 passes in
          omega (arith, here)
      | inr there ↦ let rest = file_on test f gs b there passes in omega (arith, rest)
    ]

-- a number that none of the files has changes nothing
none_more : (n : ℕ) (test : ℕ → Bool) (fs : List FileClaim) (b : ℕ) → list_any (λ (f : FileClaim). claimed_number f == n) fs ≡ false
    → files_on (λ m. n == m || test m) fs b ≡ files_on test fs b
none_more n test [] b none = refl
none_more n test (f ∷ fs) b none =
    let parts = or_parts (f.ino == n) (list_any (λ (x : FileClaim). claimed_number x == n) fs) none in
    let other : (n == f.ino) ≡ false = ne_eqb n f.ino (λ e. eqb-false f.ino n parts.0 (sym e)) in
    ap₂ (λ (t : Bool) (k : ℕ). part_of (t || test f.ino) (spans_of f.runs) b + k) other (none_more n test fs b parts.1)

-- one more file
file_more : (test : ℕ → Bool) (g : FileClaim) (fs : List FileClaim) (b : ℕ) → AreDifferent claimed_number fs → Member g fs → test g.ino ≡ false
    → files_on (λ m. g.ino == m || test m) fs b ≡ spans_on (spans_of g.runs) b + files_on test fs b
file_more test g [] b differ is none = absurd is
file_more test g (f ∷ fs) b differ is none =
    elim is [
      | inl same ↦
          let own : (g.ino == f.ino) ≡ true = eq-eqb g.ino f.ino (ap claimed_number (sym same)) in
          let here : part_of (g.ino == f.ino || test f.ino) (spans_of f.runs) b ≡ spans_on (spans_of g.runs) b =
          cond-true (g.ino == f.ino || test f.ino) (spans_on (spans_of f.runs) b) 0 (or_left (g.ino == f.ino) (test f.ino) own)
          ∙ ap (λ (x : FileClaim). spans_on (spans_of x.runs) b) same in
          let before : part_of (test f.ino) (spans_of f.runs) b ≡ 0 =
          ap (λ (t : Bool). part_of t (spans_of f.runs) b) (ap (λ (x : FileClaim). test x.ino) same ∙ none) in
          let rest = none_more g.ino test fs b (subst (λ (x : FileClaim). list_any (λ (y : FileClaim). claimed_number y == claimed_number x) fs ≡ false) same differ.0) in
          omega (arith, here, before, rest)
      | inr there ↦
          let other : (g.ino == f.ino) ≡ false = ne_eqb g.ino f.ino (λ e.
          both_ways (list_any (λ (y : FileClaim). claimed_number y == claimed_number f) fs) differ.0 (member_any (λ (y : FileClaim). claimed_number y == claimed_number f) g fs there (eq-eqb g.ino f.ino e))) in
          let here : part_of (g.ino == f.ino || test f.ino) (spans_of f.runs) b ≡ part_of (test f.ino) (spans_of f.runs) b =
          ap (λ (t : Bool). part_of (t || test f.ino) (spans_of f.runs) b) other in
          let rest = file_more test g fs b differ.1 there none in
          omega (arith, here, rest)
    ]

-- each block is of as much of what is fixed and held as the blocks say that are held
pub record Tallies (fixed : ℕ → Bool) (files : List FileClaim) (held : Holding) : Type 0 where
  pub each : (b : ℕ) → one_if (fixed b) + clusters_on held.clusters b + files_on (is_among held.files) files b ≡ one_if (held.blocks b)

cluster_step : (fixed : ℕ → Bool) (files : List FileClaim) (held : Holding) (k : ℕ) → Tallies fixed files held → Tallies fixed files (with_cluster held k)
cluster_step fixed files held k so = by_case (meets held.blocks k 4) refl
  where
    fresh : meets held.blocks k 4 ≡ false → is_among held.clusters k ≡ false
    fresh off = false_from_ne_true (is_among held.clusters k) (λ is.
        let own : is_in_range k 4 k ≡ true = and_from (nat_le k k) (nat_lt k (k + 4)) (le-leb k k (omega arith)) (lt-ltb k (k + 4) (omega arith)) in
        let some = among_on held.clusters k k is own in
        let all = so.each k in
        let none : one_if (held.blocks k) ≡ 0 = ap one_if (unmet held.blocks k 4 off k (omega arith) (omega arith)) in
        omega (arith, some, all, none))

    at : meets held.blocks k 4 ≡ false → (b : ℕ) (t : Bool) → is_in_range k 4 b ≡ t
        → one_if (fixed b) + clusters_on (with_number k held.clusters) b + files_on (is_among held.files) files b ≡ one_if (with_blocks held.blocks (cluster_span k) b)
    at off b true on =
        let parts = and_parts (nat_le k b) (nat_lt b (k + 4)) on in
        let free : held.blocks b ≡ false = unmet held.blocks k 4 off b (leb-true k b parts.0) (ltb-true b (k + 4) parts.1) in
        let none : one_if (held.blocks b) ≡ 0 = ap one_if free in
        let all = so.each b in
        let more = with_on k b held.clusters (fresh off) in
        let here : one_if (is_in_range k 4 b) ≡ 1 = ap one_if on in
        let now : one_if ((is_in_range k 4 b || false) || held.blocks b) ≡ 1 = ap (λ (t : Bool). one_if ((t || false) || held.blocks b)) on in
        omega (arith, none, all, more, here, now)
    at off b false out =
        let all = so.each b in
        let more = with_on k b held.clusters (fresh off) in
        let here : one_if (is_in_range k 4 b) ≡ 0 = ap one_if out in
        let now : one_if ((is_in_range k 4 b || false) || held.blocks b) ≡ one_if (held.blocks b) = ap (λ (t : Bool). one_if ((t || false) || held.blocks b)) out in
        omega (arith, all, more, here, now)

    by_case : (t : Bool) → meets held.blocks k 4 ≡ t
        → Tallies fixed files (cond t held (record { blocks = with_blocks held.blocks (cluster_span k); clusters = with_number k held.clusters; files = held.files }))
    by_case true e = so
    by_case false e = record { each = λ b. at e b (is_in_range k 4 b) refl }

there_already : (n m : ℕ) (numbers : List ℕ) → is_among numbers n ≡ true → (t : Bool) → (n == m) ≡ t → (n == m || is_among numbers m) ≡ is_among numbers m
there_already n m numbers there true e =
    or_left (n == m) (is_among numbers m) e ∙ sym (subst (λ (k : ℕ). is_among numbers k ≡ true) (eqb-true n m e) there)
there_already n m numbers there false e = ap (λ (t : Bool). t || is_among numbers m) e

file_step : (fixed : ℕ → Bool) (files : List FileClaim) (held : Holding) (g : FileClaim) → AreDifferent claimed_number files → Member g files → SpansApart (spans_of g.runs)
    → Tallies fixed files held → Tallies fixed files (with_file held g)
file_step fixed files held g differ is apart so = by_case (is_kept held g) refl
  where
    -- with the numbers of the files, and with one more
    more : (b : ℕ) → is_among held.files g.ino ≡ false
        → files_on (is_among (with_number g.ino held.files)) files b ≡ spans_on (spans_of g.runs) b + files_on (is_among held.files) files b
    more b none = files_same (is_among (with_number g.ino held.files)) (λ m. g.ino == m || is_among held.files m) (λ m. among_more g.ino held.files m) files b
        ∙ file_more (is_among held.files) g files b differ is none

    again : (b : ℕ) → is_among held.files g.ino ≡ true → files_on (is_among (with_number g.ino held.files)) files b ≡ files_on (is_among held.files) files b
    again b there = files_same (is_among (with_number g.ino held.files)) (is_among held.files)
        (λ m. among_more g.ino held.files m ∙ there_already g.ino m held.files there (g.ino == m) refl) files b

    at : meets_any held.blocks (spans_of g.runs) ≡ false → (b : ℕ) (s t : Bool) → is_among held.files g.ino ≡ s → is_in (spans_of g.runs) b ≡ t
        → one_if (fixed b) + clusters_on held.clusters b + files_on (is_among (with_number g.ino held.files)) files b ≡ one_if (with_blocks held.blocks (spans_of g.runs) b)
    at off b false true none on =
        let all = so.each b in
        let one = more b none in
        let once = spans_once (spans_of g.runs) b apart in
        let here : one_if (is_in (spans_of g.runs) b) ≡ 1 = ap one_if on in
        let free : one_if (held.blocks b) ≡ 0 = ap one_if (spans_unmet (spans_of g.runs) held.blocks b off on) in
        let now : one_if (is_in (spans_of g.runs) b || held.blocks b) ≡ 1 = ap (λ (t : Bool). one_if (t || held.blocks b)) on in
        omega (arith, all, one, once, here, free, now)
    at off b false false none out =
        let all = so.each b in
        let one = more b none in
        let once = spans_once (spans_of g.runs) b apart in
        let here : one_if (is_in (spans_of g.runs) b) ≡ 0 = ap one_if out in
        let now : one_if (is_in (spans_of g.runs) b || held.blocks b) ≡ one_if (held.blocks b) = ap (λ (t : Bool). one_if (t || held.blocks b)) out in
        omega (arith, all, one, once, here, now)
    at off b true true there on =
        let all = so.each b in
        let some = some_spans (spans_of g.runs) b on in
        let upto = file_on (is_among held.files) g files b is there in
        let free : one_if (held.blocks b) ≡ 0 = ap one_if (spans_unmet (spans_of g.runs) held.blocks b off on) in
        absurd (omega (arith, all, some, upto, free))
    at off b true false there out =
        let all = so.each b in
        let same = again b there in
        let now : one_if (is_in (spans_of g.runs) b || held.blocks b) ≡ one_if (held.blocks b) = ap (λ (t : Bool). one_if (t || held.blocks b)) out in
        omega (arith, all, same, now)

    by_case : (t : Bool) → is_kept held g ≡ t
        → Tallies fixed files (cond t (record { blocks = with_blocks held.blocks (spans_of g.runs); clusters = held.clusters; files = with_number g.ino held.files }) held)
    by_case true e =
        let parts = and_parts (is_among held.clusters g.cluster) (not (meets_any held.blocks (spans_of g.runs))) e in
        record { each = λ b. at (not-true (meets_any held.blocks (spans_of g.runs)) parts.1) b (is_among held.files g.ino) (is_in (spans_of g.runs) b) refl refl }
    by_case false e = so

clusters_step : (fixed : ℕ → Bool) (files : List FileClaim) (held : Holding) (ks : List ℕ) → Tallies fixed files held → Tallies fixed files (with_clusters held ks)
clusters_step fixed files held [] so = so
clusters_step fixed files held (k ∷ ks) so = clusters_step fixed files (with_cluster held k) ks (cluster_step fixed files held k so)

-- a file of these whose runs are apart
abbrev IsOf : List FileClaim → FileClaim → Type 0
IsOf files g = Member g files × SpansApart (spans_of g.runs)

files_step : (fixed : ℕ → Bool) (files : List FileClaim) (held : Holding) (gs : List FileClaim) → AreDifferent claimed_number files → AllByRecursion (IsOf files) gs
    → Tallies fixed files held → Tallies fixed files (with_files held gs)
files_step fixed files held [] differ are so = so
files_step fixed files held (g ∷ gs) differ are so =
    files_step fixed files (with_file held g) gs differ are.1 (file_step fixed files held g differ are.0.0 are.0.1 so)

-- so it is of all claims
pub kept_tallies : (claims : Claims) → AreDifferent claimed_number claims.files → AllByRecursion (λ (f : FileClaim). SpansApart (spans_of f.runs)) claims.files
    → Tallies (is_in (spans_of claims.fixed)) claims.files (kept_of claims)
kept_tallies claims differ apart =
    let fixed : ℕ → Bool = is_in (spans_of claims.fixed) in
    let start : Tallies fixed claims.files (fixed_alone (spans_of claims.fixed)) = record { each = λ b. let none = files_none claims.files b in omega (arith, none) } in
    let first : Holding = with_clusters (fixed_alone (spans_of claims.fixed)) (claims.root ∷ recorded_clusters claims) in
    let middle : Holding = with_files first (recorded_files claims) in
    let third : Holding = with_clusters middle (scanned_clusters claims) in
    files_step fixed claims.files third (scanned_files claims) differ (of_rank (lies_in_scanned claims.clusters))
    (clusters_step fixed claims.files middle (scanned_clusters claims)
    (files_step fixed claims.files first (recorded_files claims) differ (of_rank (lies_in_recorded claims.clusters))
    (clusters_step fixed claims.files (fixed_alone (spans_of claims.fixed)) (claims.root ∷ recorded_clusters claims) start)))
  where
    of_rank : (test : FileClaim → Bool) → AllByRecursion (IsOf claims.files) (by_number claimed_number (filter test claims.files))
    of_rank test = to_order claimed_number (IsOf claims.files) (filter test claims.files)
        (all_members (IsOf claims.files) (filter test claims.files) (λ g is.
        let from = filter_member test g claims.files is in (from.0, member_all (λ (f : FileClaim). SpansApart (spans_of f.runs)) g claims.files apart from.0)))
