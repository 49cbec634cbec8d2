-- Pairs that are sorted, and compared one by one, are the same but for their order exactly where the answer says so.
use Rattle.std.proofs.Common.{◌≡◌, ℕ, suc, ◌+◌, ◌<◌, ◌≤◌, Bool, true, false, cond, ◌&&◌, ◌||◌, ◌==◌, nat_lt, nat_le, List, [], ◌∷◌, ◌++◌, length, refl, sym, ap, ap₂, ◌∙◌, subst, arith, inl, inr, get_or}
use lib.Pointwise.{pointwise}
use Rattle.std.specs.List.{list_all}
use Rattle.std.specs.List.Sorted.{IsPermutation, IsSorted}
use Rattle.std.specs.Ordering.{is_lt, nat_cmp, ordering_then}
use Rattle.std.proofs.lemmas.List.Sums.{sum_by-append}
use Rattle.std.proofs.lemmas.List.Sorted.{sum_by-IsPermutation}
use Rattle.std.proofs.lemmas.Bool.{true≢false, and_parts, and_from, both_ways, cases_lt, eqb-true, eq-eqb}
use Rattle.std.proofs.lemmas.Bool.Decides.{nat_tests}
use Rattle.xfs_dirindex.specs.contracts.pairs.PairOrd.TheImpl.{cmp-value}
use Rattle.xfs_dirindex.specs.contracts.pairs.PairPartialEq.TheImpl.{eq-value}
use Rattle.xfs_dirindex.specs.declared.pairs.Pair.{Pair}
use Rattle.xfs_dirindex.specs.Pairs.{is_pair, times, same_pairs}
use Rattle.xfs_dirindex.specs.Sorted.{is_pair_upto, PairsRanked}
use Rattle.xfs_disk.proofs.OneOrder.{IsOrder, only_one, passes}

-- the order of pairs
pair_one : (x y : Pair) → is_pair x y ≡ true → x ≡ y
pair_one x y e =
    let parts = and_parts (x.hash == y.hash) (x.address == y.address) e in
    let h : x.hash ≡ y.hash = eqb-true x.hash y.hash parts.0 in
    let a : x.address ≡ y.address = eqb-true x.address y.address parts.1 in
    ap₂ (λ (h a : ℕ). let p : Pair = record { hash = h; address = a } in p) h a

pair_itself : (x : Pair) → is_pair x x ≡ true
pair_itself x = and_from (x.hash == x.hash) (x.address == x.address) (eq-eqb x.hash x.hash refl) (eq-eqb x.address x.address refl)

pair_both : (x y : Pair) → is_pair_upto x y ≡ true → is_pair_upto y x ≡ true → x ≡ y
pair_both x y one other =
    let h : x.hash ≡ y.hash = hashes x.hash x.address y.hash y.address one other in
    let a : x.address ≡ y.address = addresses x.hash x.address y.hash y.address one other in
    ap₂ (λ (h a : ℕ). let p : Pair = record { hash = h; address = a } in p) h a
  where
    hashes : (a b c d : ℕ) → (nat_lt a c || (a == c && nat_le b d)) ≡ true → (nat_lt c a || (c == a && nat_le d b)) ≡ true → a ≡ c
    hashes a b c d one other = grind (arith, nat_tests)

    addresses : (a b c d : ℕ) → (nat_lt a c || (a == c && nat_le b d)) ≡ true → (nat_lt c a || (c == a && nat_le d b)) ≡ true → b ≡ d
    addresses a b c d one other = grind (arith, nat_tests)

pair_least : (x : Pair) → is_pair_upto x x ≡ true
pair_least x = itself x.hash x.address
  where
    itself : (a b : ℕ) → (nat_lt a a || (a == a && nat_le b b)) ≡ true
    itself a b = grind (arith, nat_tests)

pair_trans : (x y z : Pair) → is_pair_upto x y ≡ true → is_pair_upto y z ≡ true → is_pair_upto x z ≡ true
pair_trans x y z one other = on x.hash x.address y.hash y.address z.hash z.address one other
  where
    on : (a b c d e f : ℕ) → (nat_lt a c || (a == c && nat_le b d)) ≡ true → (nat_lt c e || (c == e && nat_le d f)) ≡ true → (nat_lt a e || (a == e && nat_le b f)) ≡ true
    on a b c d e f one other = grind (arith, nat_tests)

pub order : IsOrder is_pair_upto is_pair
order = record { itself = pair_itself; one = pair_one; both = pair_both; least = pair_least }

upto_from_cmp : (x y : Pair) → is_lt (cmp-value.it y x) ≡ false → is_pair_upto x y ≡ true
upto_from_cmp x y e = on x.hash x.address y.hash y.address e
  where
    on : (a b c d : ℕ) → is_lt (ordering_then (nat_cmp c a) (nat_cmp d b)) ≡ false → (nat_lt a c || (a == c && nat_le b d)) ≡ true
    on a b c d e = grind (arith, nat_tests)

-- what a sort gives is in order
pub all_upto : (x y : Pair) → is_pair_upto x y ≡ true → (ys : List Pair) → list_all (is_pair_upto y) ys ≡ true → list_all (is_pair_upto x) ys ≡ true
all_upto x y e [] all = refl
all_upto x y e (z ∷ zs) all =
    let parts = and_parts (is_pair_upto y z) (list_all (is_pair_upto y) zs) all in
    and_from (is_pair_upto x z) (list_all (is_pair_upto x) zs) (pair_trans x y z e parts.0) (all_upto x y e zs parts.1)

pub ranked_from_sort : (xs : List Pair) → IsSorted cmp-value.it xs → PairsRanked xs
ranked_from_sort [] sorted = tt
ranked_from_sort (x ∷ []) sorted = (refl, tt)
ranked_from_sort (x ∷ y ∷ ys) sorted =
    let first : is_pair_upto x y ≡ true = upto_from_cmp x y (sorted 0 x (omega arith) (omega arith)) in
    let later = λ (k : ℕ) (d : Pair) (low : 0 ≤ k) (high : k + 1 < length (y ∷ ys)).
    let shift : suc k + 1 ≡ suc (k + 1) = omega arith in
    subst (λ (n : ℕ). is_lt (cmp-value.it (get_or (x ∷ y ∷ ys) n d) (get_or (x ∷ y ∷ ys) (suc k) d)) ≡ false) shift (sorted (suc k) d (omega arith) (omega arith)) in
    let rest : PairsRanked (y ∷ ys) = ranked_from_sort (y ∷ ys) later in
    (and_from (is_pair_upto x y) (list_all (is_pair_upto x) ys) first (all_upto x y first ys rest.0), rest)

-- lists are one where they are compared one by one
pointwise_one : (xs ys : List Pair) → pointwise eq-value.it xs ys ≡ true → xs ≡ ys
pointwise_one [] [] e = refl
pointwise_one [] (y ∷ ys) e = absurd (true≢false (sym e))
pointwise_one (x ∷ xs) [] e = absurd (true≢false (sym e))
pointwise_one (x ∷ xs) (y ∷ ys) e =
    let parts = and_parts (eq-value.it x y) (pointwise eq-value.it xs ys) e in
    ap₂ (λ (z : Pair) (zs : List Pair). z ∷ zs) (pair_one x y parts.0) (pointwise_one xs ys parts.1)

pointwise_itself : (xs : List Pair) → pointwise eq-value.it xs xs ≡ true
pointwise_itself [] = refl
pointwise_itself (x ∷ xs) = and_from (eq-value.it x x) (pointwise eq-value.it xs xs) (pair_itself x) (pointwise_itself xs)

-- each pair stands in one list as often as in the other
all_true : (test : Pair → Bool) → ((p : Pair) → test p ≡ true) → (xs : List Pair) → list_all test xs ≡ true
all_true test each [] = refl
all_true test each (x ∷ xs) = and_from (test x) (list_all test xs) (each x) (all_true test each xs)

same_from : (xs ys : List Pair) → ((p : Pair) → times p xs ≡ times p ys) → same_pairs xs ys ≡ true
unfolding same_pairs
same_from xs ys each = all_true (λ p. times p xs == times p ys) (λ p. eq-eqb (times p xs) (times p ys) (each p)) (xs ++ ys)

same_gives : (xs ys : List Pair) → same_pairs xs ys ≡ true → (p : Pair) → times p xs ≡ times p ys
unfolding same_pairs
same_gives xs ys same p =
    let both : times p (xs ++ ys) ≡ times p xs + times p ys = sum_by-append (λ q. cond (is_pair p q) 1 0) xs ys in
    elim (cases_lt 0 (times p (xs ++ ys))) [
      | inl some ↦ eqb-true (times p xs) (times p ys) (passes is_pair_upto is_pair order (λ q. times q xs == times q ys) p (xs ++ ys) same some)
      | inr none ↦ omega arith
    ]

pub times_moved : (p : Pair) (xs ys : List Pair) → IsPermutation xs ys → times p ys ≡ times p xs
times_moved p xs ys moved = sum_by-IsPermutation (λ q. cond (is_pair p q) 1 0) xs ys moved

pub compared : (xs ys a b : List Pair) (same : Bool) → IsPermutation xs a → IsPermutation ys b → PairsRanked a → PairsRanked b → same ≡ pointwise eq-value.it a b → same ≡ same_pairs xs ys
compared xs ys a b same from_x from_y ranked_a ranked_b is =
    by_answer (pointwise eq-value.it a b) refl
  where
    by_answer : (t : Bool) → pointwise eq-value.it a b ≡ t → same ≡ same_pairs xs ys
    by_answer true e =
        let one : a ≡ b = pointwise_one a b e in
        let counts : (p : Pair) → times p xs ≡ times p ys = λ p. sym (times_moved p xs a from_x) ∙ (ap (times p) one ∙ times_moved p ys b from_y) in
        is ∙ (e ∙ sym (same_from xs ys counts))
    by_answer false e = is ∙ (e ∙ by_same (same_pairs xs ys) refl)
      where
        by_same : (t : Bool) → same_pairs xs ys ≡ t → false ≡ same_pairs xs ys
        by_same false s = sym s
        by_same true s =
            let counts = same_gives xs ys s in
            let one : a ≡ b = only_one is_pair_upto is_pair order a b ranked_a ranked_b (λ p. times_moved p xs a from_x ∙ (counts p ∙ sym (times_moved p ys b from_y))) in
            absurd (both_ways (pointwise eq-value.it a b) e (ap (pointwise eq-value.it a) (sym one) ∙ pointwise_itself a))
