-- Runs in order of length, as a sort by length gives them, are those that are put in order one by one.
use Rattle.std.proofs.Common.{◌≡◌, ℕ, suc, ◌+◌, ◌<◌, ◌≤◌, Bool, true, false, cond, if◌then◌else◌, ◌&&◌, ◌||◌, ◌==◌, nat_lt, nat_le, List, [], ◌∷◌, length, refl, sym, ap, ap₂, ◌∙◌, subst, arith, get_or}
use Rattle.std.specs.List.{list_all, count_by}
use Rattle.std.specs.List.Sorted.{IsPermutation, IsSortedBy}
use Rattle.std.specs.Ordering.{is_lt, nat_cmp, ordering_then}
use Rattle.std.proofs.lemmas.List.Sums.{sum_by-cons}
use Rattle.std.proofs.lemmas.List.Sorted.{sum_by-IsPermutation}
use Rattle.std.proofs.lemmas.Bool.{and_parts, and_from, eqb-true, eq-eqb}
use Rattle.std.proofs.lemmas.Bool.Decides.{nat_tests}
use Rattle.xfs_disk.specs.Lists.{AreInOrder}
use Rattle.xfs_disk.proofs.OneOrder.{IsOrder, only_one}
use Rattle.xfs_geom.specs.declared.records.Span.{Span}
use Rattle.xfs_kinds.specs.Lengths.{by_length, is_shorter, put_by_length, sorts_before}

-- a run comes no later than another: it is shorter, or as long and does not begin behind it
abbrev pub is_upto : Span → Span → Bool
is_upto a b = nat_lt a.count b.count || (a.count == b.count && nat_le a.start b.start)

abbrev pub AreRanked : List Span → Type 0
AreRanked runs = AreInOrder is_upto runs

-- the order of lengths
abbrev is_same : Span → Span → Bool
is_same a b = a.count == b.count && a.start == b.start

same_one : (x y : Span) → is_same x y ≡ true → x ≡ y
same_one x y e =
    let parts = and_parts (x.count == y.count) (x.start == y.start) e in
    ap₂ (λ (c s : ℕ). let l : Span = record { start = s; count = c } in l) (eqb-true x.count y.count parts.0) (eqb-true x.start y.start parts.1)

same_itself : (x : Span) → is_same x x ≡ true
same_itself x = and_from (x.count == x.count) (x.start == x.start) (eq-eqb x.count x.count refl) (eq-eqb x.start x.start refl)

upto_both : (x y : Span) → is_upto x y ≡ true → is_upto y x ≡ true → x ≡ y
upto_both x y one other =
    ap₂ (λ (c s : ℕ). let l : Span = record { start = s; count = c } in l) (counts x.count x.start y.count y.start one other) (starts x.count x.start y.count y.start one other)
  where
    counts : (a b c d : ℕ) → (nat_lt a c || (a == c && nat_le b d)) ≡ true → (nat_lt c a || (c == a && nat_le d b)) ≡ true → a ≡ c
    counts a b c d one other = grind (arith, nat_tests)

    starts : (a b c d : ℕ) → (nat_lt a c || (a == c && nat_le b d)) ≡ true → (nat_lt c a || (c == a && nat_le d b)) ≡ true → b ≡ d
    starts a b c d one other = grind (arith, nat_tests)

upto_itself : (x : Span) → is_upto x x ≡ true
upto_itself x = itself x.count x.start
  where
    itself : (a b : ℕ) → (nat_lt a a || (a == a && nat_le b b)) ≡ true
    itself a b = grind (arith, nat_tests)

upto_trans : (x y z : Span) → is_upto x y ≡ true → is_upto y z ≡ true → is_upto x z ≡ true
upto_trans x y z one other = on x.count x.start y.count y.start z.count z.start one other
  where
    on : (a b c d e f : ℕ) → (nat_lt a c || (a == c && nat_le b d)) ≡ true → (nat_lt c e || (c == e && nat_le d f)) ≡ true → (nat_lt a e || (a == e && nat_le b f)) ≡ true
    on a b c d e f one other = grind (arith, nat_tests)

order : IsOrder is_upto is_same
order = record { itself = same_itself; one = same_one; both = upto_both; least = upto_itself }

upto_from_cmp : (x y : Span) → is_lt (ordering_then (nat_cmp y.count x.count) (nat_cmp y.start x.start)) ≡ false → is_upto x y ≡ true
upto_from_cmp x y e = on x.count x.start y.count y.start e
  where
    on : (a b c d : ℕ) → is_lt (ordering_then (nat_cmp c a) (nat_cmp d b)) ≡ false → (nat_lt a c || (a == c && nat_le b d)) ≡ true
    on a b c d e = grind (arith, nat_tests)

-- what a sort gives is in order
pub all_upto : (x y : Span) → is_upto x y ≡ true → (ys : List Span) → list_all (is_upto y) ys ≡ true → list_all (is_upto x) ys ≡ true
all_upto x y e [] all = refl
all_upto x y e (z ∷ zs) all =
    let parts = and_parts (is_upto y z) (list_all (is_upto y) zs) all in
    and_from (is_upto x z) (list_all (is_upto x) zs) (upto_trans x y z e parts.0) (all_upto x y e zs parts.1)

ranked_from_sort : (xs : List Span) → IsSortedBy sorts_before xs → AreRanked xs
ranked_from_sort [] sorted = tt
ranked_from_sort (x ∷ []) sorted = (refl, tt)
ranked_from_sort (x ∷ y ∷ ys) sorted =
    let first : is_upto x y ≡ true = upto_from_cmp x y (sorted 0 x (omega arith) (omega arith)) in
    let later = λ (k : ℕ) (d : Span) (low : 0 ≤ k) (high : k + 1 < length (y ∷ ys)).
    let shift : suc k + 1 ≡ suc (k + 1) = omega arith in
    subst (λ (n : ℕ). sorts_before (get_or (x ∷ y ∷ ys) n d) (get_or (x ∷ y ∷ ys) (suc k) d) ≡ false) shift (sorted (suc k) d (omega arith) (omega arith)) in
    let rest : AreRanked (y ∷ ys) = ranked_from_sort (y ∷ ys) later in
    (and_from (is_upto x y) (list_all (is_upto x) ys) first (all_upto x y first ys rest.0), rest)

-- runs that are put in order one by one are in order
shorter_upto : (x s : Span) → is_shorter x s ≡ true → is_upto x s ≡ true
shorter_upto x s e = on x.count x.start s.count s.start e
  where
    on : (a b c d : ℕ) → (nat_lt a c || (a == c && nat_lt b d)) ≡ true → (nat_lt a c || (a == c && nat_le b d)) ≡ true
    on a b c d e = grind (arith, nat_tests)

longer_upto : (x s : Span) → is_shorter x s ≡ false → is_upto s x ≡ true
longer_upto x s e = on x.count x.start s.count s.start e
  where
    on : (a b c d : ℕ) → (nat_lt a c || (a == c && nat_lt b d)) ≡ false → (nat_lt c a || (c == a && nat_le d b)) ≡ true
    on a b c d e = grind (arith, nat_tests)

all_put : (test : Span → Bool) (s : Span) (xs : List Span) → test s ≡ true → list_all test xs ≡ true → list_all test (put_by_length s xs) ≡ true
all_put test s [] first all = and_from (test s) true first refl
all_put test s (x ∷ xs) first all = by_case (is_shorter x s) (all_put test s xs first (and_parts (test x) (list_all test xs) all).1)
  where
    by_case : (t : Bool) → list_all test (put_by_length s xs) ≡ true → list_all test (if t then x ∷ put_by_length s xs else (s ∷ x ∷ xs)) ≡ true
    by_case true rest = and_from (test x) (list_all test (put_by_length s xs)) (and_parts (test x) (list_all test xs) all).0 rest
    by_case false rest = and_from (test s) (list_all test (x ∷ xs)) first all

put_ranked : (s : Span) (xs : List Span) → AreRanked xs → AreRanked (put_by_length s xs)
put_ranked s [] ranked = (refl, tt)
put_ranked s (x ∷ xs) ranked = by_case (is_shorter x s) refl (put_ranked s xs ranked.1)
  where
    by_case : (t : Bool) → is_shorter x s ≡ t → AreRanked (put_by_length s xs) → AreRanked (if t then x ∷ put_by_length s xs else (s ∷ x ∷ xs))
    by_case true e rest = (all_put (is_upto x) s xs (shorter_upto x s e) ranked.0, rest)
    by_case false e rest =
        let first = longer_upto x s e in
        (and_from (is_upto s x) (list_all (is_upto s) xs) first (all_upto s x first xs ranked.0), ranked)

count-cons : (p : Span → Bool) (x : Span) (xs : List Span) → count_by p (x ∷ xs) ≡ cond (p x) 1 0 + count_by p xs
count-cons p x xs = sum_by-cons (λ y. cond (p y) 1 0) x xs

count_put : (p : Span → Bool) (s : Span) (xs : List Span) → count_by p (put_by_length s xs) ≡ count_by p (s ∷ xs)
count_put p s [] = refl
count_put p s (x ∷ xs) = by_case (is_shorter x s) (count_put p s xs)
  where
    by_case : (t : Bool) → count_by p (put_by_length s xs) ≡ count_by p (s ∷ xs)
        → count_by p (if t then x ∷ put_by_length s xs else (s ∷ x ∷ xs)) ≡ count_by p (s ∷ x ∷ xs)
    by_case false rest = refl
    by_case true rest =
        let a : count_by p (x ∷ put_by_length s xs) ≡ cond (p x) 1 0 + count_by p (put_by_length s xs) = count-cons p x (put_by_length s xs) in
        let b : count_by p (s ∷ xs) ≡ cond (p s) 1 0 + count_by p xs = count-cons p s xs in
        let c : count_by p (s ∷ x ∷ xs) ≡ cond (p s) 1 0 + count_by p (x ∷ xs) = count-cons p s (x ∷ xs) in
        let d : count_by p (x ∷ xs) ≡ cond (p x) 1 0 + count_by p xs = count-cons p x xs in
        omega (arith, a, b, c, d, rest)

ordered_ranked : (ss : List Span) → AreRanked (by_length ss)
unfolding by_length
ordered_ranked [] = tt
ordered_ranked (s ∷ ss) = put_ranked s (by_length ss) (ordered_ranked ss)

ordered_counts : (p : Span → Bool) (ss : List Span) → count_by p (by_length ss) ≡ count_by p ss
unfolding by_length
ordered_counts p [] = refl
ordered_counts p (s ∷ ss) =
    let a : count_by p (s ∷ by_length ss) ≡ cond (p s) 1 0 + count_by p (by_length ss) = count-cons p s (by_length ss) in
    let b : count_by p (s ∷ ss) ≡ cond (p s) 1 0 + count_by p ss = count-cons p s ss in
    let put = count_put p s (by_length ss) in
    let rest : count_by p (by_length ss) ≡ count_by p ss = ordered_counts p ss in
    put ∙ (a ∙ (ap (λ (n : ℕ). cond (p s) 1 0 + n) rest ∙ sym b))

-- the one list in order is what the definition gives
pub ranked_is : (runs sorted : List Span) → IsPermutation runs sorted → AreRanked sorted → sorted ≡ by_length runs
ranked_is runs sorted moved ranked =
    let counts : (p : Span) → count_by (is_same p) sorted ≡ count_by (is_same p) (by_length runs) =
    λ p. sum_by-IsPermutation (λ q. cond (is_same p q) 1 0) runs sorted moved ∙ sym (ordered_counts (is_same p) runs) in
    only_one is_upto is_same order sorted (by_length runs) ranked (ordered_ranked runs) counts

-- what a sort gives is what the definition gives
pub sorted_is : (runs sorted : List Span) → IsPermutation runs sorted → IsSortedBy sorts_before sorted → sorted ≡ by_length runs
sorted_is runs sorted moved up = ranked_is runs sorted moved (ranked_from_sort sorted up)
