-- Pairs that were sorted are the pairs in rank.
use Rattle.std.proofs.Common.{◌≡◌, ℕ, ◌+◌, Bool, true, false, cond, ◌||◌, ◌&&◌, ◌==◌, nat_lt, nat_le, if◌then◌else◌, List, [], ◌∷◌, refl, sym, ◌∙◌, arith}
use Rattle.std.specs.List.{list_all}
use Rattle.std.specs.List.Sorted.{IsPermutation}
use Rattle.std.proofs.lemmas.Bool.{and_parts, and_from}
use Rattle.std.proofs.lemmas.Bool.Decides.{nat_tests}
use Rattle.xfs_dirindex.specs.declared.pairs.Pair.{Pair}
use Rattle.xfs_dirindex.specs.Pairs.{is_pair, times}
use Rattle.xfs_dirindex.specs.Sorted.{is_pair_upto, PairsRanked}
use Rattle.xfs_disk.proofs.OneOrder.{count-cons, only_one}
use Rattle.xfs_dirindex.proofs.Compared.{order, all_upto, times_moved}
use Rattle.xfs_dirbuild.specs.Ranking.{with_pair, in_rank}

-- what comes not before another comes behind it
other_way : (p q : Pair) → is_pair_upto p q ≡ false → is_pair_upto q p ≡ true
other_way p q behind = on p.hash p.address q.hash q.address behind
  where
    on : (a b c d : ℕ) → (nat_lt a c || (a == c && nat_le b d)) ≡ false → (nat_lt c a || (c == a && nat_le d b)) ≡ true
    on a b c d behind = grind (arith, nat_tests)

-- one more is put in its place
all-with : (test : Pair → Bool) (p : Pair) (qs : List Pair) → test p ≡ true → list_all test qs ≡ true → list_all test (with_pair p qs) ≡ true
all-with test p [] one all = and_from (test p) true one refl
all-with test p (q ∷ qs) one all =
    let parts = and_parts (test q) (list_all test qs) all in
    by_test (is_pair_upto p q) (and_from (test q) (list_all test (with_pair p qs)) parts.0 (all-with test p qs one parts.1))
  where
    by_test : (t : Bool) → list_all test (q ∷ with_pair p qs) ≡ true → list_all test (if t then p ∷ q ∷ qs else q ∷ with_pair p qs) ≡ true
    by_test true rest = and_from (test p) (list_all test (q ∷ qs)) one all
    by_test false rest = rest

ranked-with : (p : Pair) (qs : List Pair) → PairsRanked qs → PairsRanked (with_pair p qs)
ranked-with p [] ranked = (refl, tt)
ranked-with p (q ∷ qs) ranked = by_test (is_pair_upto p q) refl (ranked-with p qs ranked.1)
  where
    by_test : (t : Bool) → is_pair_upto p q ≡ t → PairsRanked (with_pair p qs) → PairsRanked (if t then p ∷ q ∷ qs else q ∷ with_pair p qs)
    by_test true is rest = (and_from (is_pair_upto p q) (list_all (is_pair_upto p) qs) is (all_upto p q is qs ranked.0), ranked)
    by_test false is rest = (all-with (is_pair_upto q) p qs (other_way p q is) ranked.0, rest)

ranked-all : (ps : List Pair) → PairsRanked (in_rank ps)
unfolding in_rank
ranked-all [] = tt
ranked-all (p ∷ ps) = ranked-with p (in_rank ps) (ranked-all ps)

times-with : (x p : Pair) (qs : List Pair) → times x (with_pair p qs) ≡ times x (p ∷ qs)
times-with x p [] = refl
times-with x p (q ∷ qs) = by_test (is_pair_upto p q) (times-with x p qs)
  where
    by_test : (t : Bool) → times x (with_pair p qs) ≡ times x (p ∷ qs) → times x (if t then p ∷ q ∷ qs else q ∷ with_pair p qs) ≡ times x (p ∷ q ∷ qs)
    by_test true rest = refl
    by_test false rest =
        let one : times x (q ∷ with_pair p qs) ≡ cond (is_pair x q) 1 0 + times x (with_pair p qs) = count-cons (is_pair x) q (with_pair p qs) in
        let two : times x (p ∷ qs) ≡ cond (is_pair x p) 1 0 + times x qs = count-cons (is_pair x) p qs in
        let three : times x (q ∷ qs) ≡ cond (is_pair x q) 1 0 + times x qs = count-cons (is_pair x) q qs in
        let four : times x (p ∷ q ∷ qs) ≡ cond (is_pair x p) 1 0 + times x (q ∷ qs) = count-cons (is_pair x) p (q ∷ qs) in
        omega (arith, one, two, three, four, rest)

times-all : (x : Pair) (ps : List Pair) → times x (in_rank ps) ≡ times x ps
unfolding in_rank
times-all x [] = refl
times-all x (p ∷ ps) =
    let one : times x (p ∷ in_rank ps) ≡ cond (is_pair x p) 1 0 + times x (in_rank ps) = count-cons (is_pair x) p (in_rank ps) in
    let two : times x (p ∷ ps) ≡ cond (is_pair x p) 1 0 + times x ps = count-cons (is_pair x) p ps in
    omega (arith, times-with x p (in_rank ps), one, two, times-all x ps)

-- so a list in order with the same pairs is the one
pub ranked-is : (ps sorted : List Pair) → IsPermutation ps sorted → PairsRanked sorted → sorted ≡ in_rank ps
ranked-is ps sorted moved ranked =
    only_one is_pair_upto is_pair order sorted (in_rank ps) ranked (ranked-all ps) (λ x. times_moved x ps sorted moved ∙ sym (times-all x ps))
