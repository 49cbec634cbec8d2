-- Entries in the order of their directories stand one directory after the other.
use Rattle.std.proofs.Common.{◌≡◌, ℕ, ◌+◌, ◌<◌, ◌≤◌, ◌==◌, ◌&&◌, inl, inr, Bool, true, false, not, cond, List, [], ◌∷◌, ◌++◌, length, suc, refl, sym, ap, ◌∙◌, arith, subst, slice_index_or}
use Rattle.std.specs.List.{filter, All}
use Rattle.std.specs.List.Sorted.{IsNonDecreasingBy, IsStableBy}
use Rattle.std.specs.Ordering.{nat_cmp, is_lt}
use Rattle.std.proofs.lemmas.Bool.{cases_eq, cases_order}
use Rattle.std.proofs.lemmas.Bool.Decides.{nat_tests}
use Rattle.std.proofs.lemmas.List.Elements.{All-head, All-filter, All-weaker, filter_passes}
use Rattle.xfs_collections.specs.Lists.{has_node}
use Rattle.xfs_dirdata.specs.declared.records.EntryRec.{EntryRec}
use Rattle.xfs_naming.specs.Naming.{NumbersAscend, entries_in}
use Rattle.xfs_links.specs.Entries.{DirectoriesAscend}
use Rattle.xfs_links.specs.Settled.{by_directory}
use Rattle.xfs_links.proofs.Ascending.{rises}
use Rattle.xfs_links.proofs.Tests.{same_test, other_test, the_second, clash}

-- entries that tie with one of a directory are those of the directory
tie_is : (a b : ℕ) → (not (is_lt (nat_cmp a b)) && not (is_lt (nat_cmp b a))) ≡ (b == a)
tie_is a b = elim (cases_order a b) [
  | inl same ↦ grind (arith, nat_tests)
  | inr d ↦ elim d [ inl l ↦ grind (arith, nat_tests) | inr l ↦ grind (arith, nat_tests) ]
]

pub stays_in : (es ys : List EntryRec) → IsStableBy (λ (x y : EntryRec). is_lt (nat_cmp x.dir y.dir)) es ys → (d : ℕ) → entries_in ys d ≡ entries_in es d
stays_in es ys stable d = (λ i. filter (λ (y : EntryRec). sym (tie_is d y.dir) i) ys) ∙ stable (record { dir = d; name = []; ino = 0; ftype = 0 }) ∙ (λ i. filter (λ (y : EntryRec). tie_is d y.dir i) es)

-- the same entries of each directory
same_by : (es ys : List EntryRec) (ds : List ℕ) → ((d : ℕ) → entries_in ys d ≡ entries_in es d) → by_directory ys ds ≡ by_directory es ds
same_by es ys [] same = refl
same_by es ys (d ∷ ds) same = ap (λ xs. xs ++ by_directory ys ds) (same d) ∙ ap (λ xs. entries_in es d ++ xs) (same_by es ys ds same)

-- by place
pub ascends : (low : ℕ) (ys : List EntryRec) → IsNonDecreasingBy (λ (e : EntryRec). e.dir) ys → ((d : EntryRec) → 0 < length ys → low ≤ (slice_index_or ys 0 d).dir) → DirectoriesAscend low ys
ascends low [] up first = tt
ascends low (e ∷ es) up first = (first e (omega arith), ascends e.dir es (λ i j d le h. up (suc i) (suc j) d (omega arith) (omega arith)) (λ d h. up 0 1 d (omega arith) (omega arith)))

-- none is of a directory below all
none_in : (low d : ℕ) (ys : List EntryRec) → DirectoriesAscend low ys → d < low → entries_in ys d ≡ []
none_in low d [] up h = refl
none_in low d (e ∷ es) up h =
    ap (λ t. cond t (e ∷ entries_in es d) (entries_in es d)) (other_test e.dir d (λ same. absurd (omega (arith, up.0)))) ∙ none_in e.dir d es up.1 (omega (arith, up.0))

all_others : (low d : ℕ) (ys : List EntryRec) → DirectoriesAscend low ys → d < low → filter (λ (e : EntryRec). not (e.dir == d)) ys ≡ ys
all_others low d [] up h = refl
all_others low d (e ∷ es) up h =
    ap (λ t. cond (not t) (e ∷ filter (λ (e : EntryRec). not (e.dir == d)) es) (filter (λ (e : EntryRec). not (e.dir == d)) es)) (other_test e.dir d (λ same. absurd (omega (arith, up.0))))
    ∙ ap (λ xs. e ∷ xs) (all_others e.dir d es up.1 (omega (arith, up.0)))

-- those of the first directory stand first
split_first : (d : ℕ) (ys : List EntryRec) → DirectoriesAscend d ys → ys ≡ entries_in ys d ++ filter (λ (e : EntryRec). not (e.dir == d)) ys
split_first d [] up = refl
split_first d (e ∷ es) up = elim (cases_eq e.dir d) [
  | inl same ↦
      (ap (λ xs. e ∷ xs) (split_first d es (subst (λ c. DirectoriesAscend c es) same up.1))
      ∙ sym (ap (λ t. cond t (e ∷ entries_in es d) (entries_in es d) ++ cond (not t) (e ∷ filter (λ (e : EntryRec). not (e.dir == d)) es) (filter (λ (e : EntryRec). not (e.dir == d)) es)) (same_test e.dir d same)))
  | inr other ↦
      (let above : d < e.dir = omega (arith, up.0, other) in
      sym (ap (λ t. cond t (e ∷ entries_in es d) (entries_in es d) ++ cond (not t) (e ∷ filter (λ (e : EntryRec). not (e.dir == d)) es) (filter (λ (e : EntryRec). not (e.dir == d)) es)) (other_test e.dir d other)
      ∙ ap (λ xs. xs ++ e ∷ filter (λ (e : EntryRec). not (e.dir == d)) es) (none_in e.dir d es up.1 above)
      ∙ ap (λ xs. e ∷ xs) (all_others e.dir d es up.1 above)))
]

-- the others of another directory
in_others : (c d : ℕ) (ys : List EntryRec) → (c ≡ d → ⊥) → entries_in (filter (λ (e : EntryRec). not (e.dir == d)) ys) c ≡ entries_in ys c
in_others c d [] off = refl
in_others c d (e ∷ es) off = elim (cases_eq e.dir d) [
  | inl same ↦
      (ap (λ t. entries_in (cond (not t) (e ∷ filter (λ (e : EntryRec). not (e.dir == d)) es) (filter (λ (e : EntryRec). not (e.dir == d)) es)) c) (same_test e.dir d same)
      ∙ in_others c d es off
      ∙ sym (ap (λ t. cond t (e ∷ entries_in es c) (entries_in es c)) (other_test e.dir c (λ k. off (sym k ∙ same)))))
  | inr other ↦
      (ap (λ t. entries_in (cond (not t) (e ∷ filter (λ (e : EntryRec). not (e.dir == d)) es) (filter (λ (e : EntryRec). not (e.dir == d)) es)) c) (other_test e.dir d other)
      ∙ ap (λ xs. cond (e.dir == c) (e ∷ xs) xs) (in_others c d es off))
]

by_others : (low d : ℕ) (ys : List EntryRec) (ds : List ℕ) → d < low → NumbersAscend low ds → by_directory (filter (λ (e : EntryRec). not (e.dir == d)) ys) ds ≡ by_directory ys ds
by_others low d ys [] h up = refl
by_others low d ys (c ∷ cs) h up =
    ap (λ xs. xs ++ by_directory (filter (λ (e : EntryRec). not (e.dir == d)) ys) cs) (in_others c d ys (λ same. absurd (omega (arith, up.0))))
    ∙ ap (λ xs. entries_in ys c ++ xs) (by_others (c + 1) d ys cs (omega (arith, up.0)) up.1)

-- some of those that ascend do
lower : (low v : ℕ) (ys : List EntryRec) → low ≤ v → DirectoriesAscend v ys → DirectoriesAscend low ys
lower low v [] le up = tt
lower low v (e ∷ es) le up = (omega (arith, up.0), up.1)

filter_ascends : (p : EntryRec → Bool) (low : ℕ) (ys : List EntryRec) → DirectoriesAscend low ys → DirectoriesAscend low (filter p ys)
filter_ascends p low [] up = tt
filter_ascends p low (e ∷ es) up = either (p e) (filter_ascends p e.dir es up.1)
  where
    either : (t : Bool) → DirectoriesAscend e.dir (filter p es) → DirectoriesAscend low (cond t (e ∷ filter p es) (filter p es))
    either true r = (up.0, r)
    either false r = lower low e.dir (filter p es) up.0 r

from_first : (low d : ℕ) (ys : List EntryRec) (ds : List ℕ) → NumbersAscend (d + 1) ds → DirectoriesAscend low ys → All (λ (e : EntryRec). has_node e.dir (d ∷ ds) ≡ true) ys → DirectoriesAscend d ys
from_first low d [] ds up rise known = tt
from_first low d (e ∷ es) ds up rise known = (rises d e.dir (d ∷ ds) (omega arith, up) (All-head (λ (e : EntryRec). has_node e.dir (d ∷ ds) ≡ true) e es known), rise.1)

in_order : (low : ℕ) (ys : List EntryRec) (ds : List ℕ) → NumbersAscend low ds → DirectoriesAscend 0 ys → All (λ (e : EntryRec). has_node e.dir ds ≡ true) ys → ys ≡ by_directory ys ds
in_order low [] [] up rise known = refl
in_order low (e ∷ es) [] up rise known = clash (All-head (λ (e : EntryRec). has_node e.dir [] ≡ true) e es known)
in_order low ys (d ∷ ds) up rise known =
    split_first d ys (from_first 0 d ys ds up.1 rise known)
    ∙ ap (λ xs. entries_in ys d ++ xs) (in_order (d + 1) (filter (λ (e : EntryRec). not (e.dir == d)) ys) ds up.1 (filter_ascends (λ (e : EntryRec). not (e.dir == d)) 0 ys rise) others_known)
    ∙ ap (λ xs. entries_in ys d ++ xs) (by_others (d + 1) d ys ds (omega arith) up.1)
  where
    further : (e : EntryRec) → (has_node e.dir (d ∷ ds) ≡ true) × (not (e.dir == d) ≡ true) → has_node e.dir ds ≡ true
    further e (known, off) = the_second (d == e.dir) (has_node e.dir ds) (turned d e.dir off) known
      where
        turned : (a b : ℕ) → not (b == a) ≡ true → (a == b) ≡ false
        turned a b k = grind (arith, nat_tests)

    others_known : All (λ (e : EntryRec). has_node e.dir ds ≡ true) (filter (λ (e : EntryRec). not (e.dir == d)) ys)
    others_known = All-weaker (λ (e : EntryRec). (has_node e.dir (d ∷ ds) ≡ true) × (not (e.dir == d) ≡ true)) (λ (e : EntryRec). has_node e.dir ds ≡ true) further (filter (λ (e : EntryRec). not (e.dir == d)) ys)
        (λ k x h. (All-filter (λ (e : EntryRec). not (e.dir == d)) (λ (e : EntryRec). has_node e.dir (d ∷ ds) ≡ true) ys known k x h, filter_passes (λ (e : EntryRec). not (e.dir == d)) ys k x h))

pub grouped : (es ys : List EntryRec) (ds : List ℕ) → IsNonDecreasingBy (λ (e : EntryRec). e.dir) ys → ((d : ℕ) → entries_in ys d ≡ entries_in es d) → NumbersAscend 0 ds → All (λ (e : EntryRec). has_node e.dir ds ≡ true) ys
    → ys ≡ by_directory es ds
grouped es ys ds rise same up known = in_order 0 ys ds up (ascends 0 ys rise (λ d h. omega arith)) known ∙ same_by es ys ds same
