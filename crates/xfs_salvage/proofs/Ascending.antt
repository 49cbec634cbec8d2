-- What is kept ascends, and so do files of which some are left out.
use Rattle.std.proofs.Common.{◌≡◌, ℕ, zero, suc, Bool, true, false, cond, ◌+◌, ◌≤◌, ◌<◌, inl, inr, ◌==◌, nat_lt, List, [], ◌∷◌, length, get_or, filter, Result, Ok, Err, IfOk, refl, sym, subst, arith}
use Rattle.std.specs.List.Sorted.{IsBinarySearchResult}
use Rattle.std.specs.Ordering.{nat_cmp}
use Rattle.std.specs.Result.{MatchResult, is_ok}
use Rattle.std.proofs.lemmas.Bool.{cases_lt, cases_order, eq-eqb, ne_eqb, or_from, or_left, or_right}
use Rattle.std.proofs.lemmas.Bool.Decides.{nat_tests}
use Rattle.std.proofs.lemmas.List.Sorted.{searched}
use Rattle.xfs_disk.specs.Lists.{is_among, with_number}
use Rattle.xfs_collections.specs.Blocks.{meets}
use Rattle.xfs_geom.specs.Volumes.{Volume}
use Rattle.xfs_volume.specs.declared.files.FileRec.{FileRec}
use Rattle.xfs_naming.specs.Naming.{NumbersAscend, numbers_of}
use Rattle.xfs_naming.proofs.Ascending.{ascend_rises}
use Rattle.xfs_claims.specs.declared.claimants.Claims.{Claims}
use Rattle.xfs_claims.specs.declared.claimants.FileClaim.{FileClaim}
use Rattle.xfs_claims.specs.declared.claimants.KeptClaims.{KeptClaims}
use Rattle.xfs_claims.specs.Keeping.{Holding, cluster_span, fixed_alone, is_kept, kept_of, recorded_kept, with_cluster, with_clusters, with_file, with_files}
use Rattle.xfs_claims.specs.Ranks.{recorded_clusters, recorded_files, scanned_clusters, scanned_files}
use Rattle.xfs_claims.specs.Spans.{spans_of, with_blocks}
use Rattle.xfs_salvage.specs.Claimable.{AscendClaiming}

pub lower : (low high : ℕ) (ns : List ℕ) → low ≤ high → NumbersAscend high ns → NumbersAscend low ns
lower low high [] le up = tt
lower low high (n ∷ ns) le up = (let first = up.0 in omega (arith, le, first), up.1)

-- one more number at its place
pub with_ascends : (low n : ℕ) (ns : List ℕ) → low ≤ n → NumbersAscend low ns → NumbersAscend low (with_number n ns)
with_ascends low n [] le up = (le, tt)
with_ascends low n (m ∷ ms) le up =
    elim (cases_order n m) [
      | inl same ↦ let e : nat_lt n m ≡ false = grind (arith, nat_tests) in let f : (n == m) ≡ true = grind (arith, nat_tests) in rw (e, f) up
      | inr other ↦ elim other [
        | inl lt ↦ let e : nat_lt n m ≡ true = grind (arith, nat_tests) in rw e (le, (omega (arith, lt), up.1))
        | inr gt ↦ let e : nat_lt n m ≡ false = grind (arith, nat_tests) in
            let f : (n == m) ≡ false = grind (arith, nat_tests) in
            rw (e, f) (up.0, with_ascends (m + 1) n ms (omega (arith, gt)) up.1)
      ]
    ]

file_ascends : (held : Holding) (f : FileClaim) → NumbersAscend 0 held.files → NumbersAscend 0 (with_file held f).files
file_ascends held f up = by_case (is_kept held f)
  where
    by_case : (t : Bool)
        → NumbersAscend 0 (cond t (record { blocks = with_blocks held.blocks (spans_of f.runs); clusters = held.clusters; files = with_number f.ino held.files }) held).files
    by_case true = with_ascends 0 f.ino held.files (omega arith) up
    by_case false = up

files_ascend : (held : Holding) (fs : List FileClaim) → NumbersAscend 0 held.files → NumbersAscend 0 (with_files held fs).files
files_ascend held [] up = up
files_ascend held (f ∷ fs) up = files_ascend (with_file held f) fs (file_ascends held f up)

cluster_leaves : (held : Holding) (block : ℕ) → NumbersAscend 0 held.files → NumbersAscend 0 (with_cluster held block).files
cluster_leaves held block up = by_case (meets held.blocks block 4)
  where
    by_case : (t : Bool)
        → NumbersAscend 0 (cond t held (record { blocks = with_blocks held.blocks (cluster_span block); clusters = with_number block held.clusters; files = held.files })).files
    by_case true = up
    by_case false = up

clusters_leave : (held : Holding) (blocks : List ℕ) → NumbersAscend 0 held.files → NumbersAscend 0 (with_clusters held blocks).files
clusters_leave held [] up = up
clusters_leave held (block ∷ blocks) up = clusters_leave (with_cluster held block) blocks (cluster_leaves held block up)

-- the numbers of the kept files ascend
pub kept_ascend : (claims : Claims) → NumbersAscend 0 (kept_of claims).files
kept_ascend claims =
    let first : Holding = with_clusters (fixed_alone (spans_of claims.fixed)) (claims.root ∷ recorded_clusters claims) in
    let middle : Holding = with_files first (recorded_files claims) in
    let third : Holding = with_clusters middle (scanned_clusters claims) in
    files_ascend third (scanned_files claims)
    (clusters_leave middle (scanned_clusters claims)
    (files_ascend first (recorded_files claims)
    (clusters_leave (fixed_alone (spans_of claims.fixed)) (claims.root ∷ recorded_clusters claims) tt)))

-- files that stand by number do so where some are left out
pub filtered : (test : FileRec → Bool) (low : ℕ) (fs : List FileRec) → NumbersAscend low (numbers_of fs) → NumbersAscend low (numbers_of (filter test fs))
filtered test low [] up = tt
filtered test low (f ∷ fs) up = either (test f) (filtered test (f.ino + 1) fs up.1)
  where
    either : (t : Bool) → NumbersAscend (f.ino + 1) (numbers_of (filter test fs)) → NumbersAscend low (numbers_of (cond t (f ∷ filter test fs) (filter test fs)))
    either true rest = (up.0, rest)
    either false rest = let first = up.0 in lower low (f.ino + 1) (numbers_of (filter test fs)) (omega (arith, first)) rest

pub claiming_ascend : (v : Volume) (low : ℕ) (fs : List FileRec) → AscendClaiming v low fs → NumbersAscend low (numbers_of fs)
claiming_ascend v low [] up = tt
claiming_ascend v low (f ∷ fs) up = (up.0, claiming_ascend v (f.ino + 1) fs up.2)

pub files_ascend_if : {E : Type 0} (claims : Claims) (kept : Result KeptClaims E) → IfOk kept (λ k. k.files ≡ (kept_of claims).files) → IfOk kept (λ k. NumbersAscend 0 k.files)
files_ascend_if claims (Ok kept) is = subst (NumbersAscend 0) (sym is) (kept_ascend claims)
files_ascend_if claims (Err fault) is = tt

-- whether a number is found among ascending ones
among_at : (ns : List ℕ) (i n : ℕ) → i < length ns → get_or ns i 0 ≡ n → is_among ns n ≡ true
among_at [] i n inside is = absurd (omega (arith, inside))
among_at (m ∷ ms) zero n inside is = or_left (m == n) (is_among ms n) (eq-eqb m n is)
among_at (m ∷ ms) (suc i) n inside is = or_right (m == n) (is_among ms n) (among_at ms i n (omega (arith, inside)) is)

none_at : (ns : List ℕ) (n : ℕ) → ((k : ℕ) → k < length ns → get_or ns k 0 ≡ n → ⊥) → is_among ns n ≡ false
none_at [] n none = refl
none_at (m ∷ ms) n none =
    or_from (m == n) (is_among ms n) (ne_eqb m n (none 0 (omega arith))) (none_at ms n (λ k inside. none (suc k) (omega (arith, inside))))

pub found_among : (ns : List ℕ) (n : ℕ) (r : Result ℕ ℕ) → NumbersAscend 0 ns → IsBinarySearchResult (λ y. nat_cmp y n) ns r → is_ok r ≡ is_among ns n
found_among ns n r up found = by_case r (searched ns n r found (ascend_rises 0 ns up))
  where
    by_case : (r : Result ℕ ℕ)
        → MatchResult r (λ i. (i < length ns) × (get_or ns i 0 ≡ n)) (λ i. (i ≤ length ns) × ((k : ℕ) → k < i → get_or ns k 0 < n) × ((k : ℕ) → i ≤ k → k < length ns → n < get_or ns k 0))
        → is_ok r ≡ is_among ns n
    by_case (Ok i) at = sym (among_at ns i n at.0 at.1)
    by_case (Err i) at = sym (none_at ns n (λ k inside is. elim (cases_lt k i) [
      | inl below ↦ let less = at.1 k below in omega (arith, less, is)
      | inr above ↦ let more = at.2 k above inside in omega (arith, more, is)
    ]))
