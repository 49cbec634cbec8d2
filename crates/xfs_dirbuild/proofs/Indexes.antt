-- Pairs in order are a sound index.
use Rattle.std.proofs.Common.{◌≡◌, ℕ, suc, zero, ◌+◌, ◌*◌, ◌<◌, ◌≤◌, Bool, true, cond, not, ◌&&◌, ◌||◌, ◌==◌, nat_le, nat_lt, if◌then◌else◌, List, [], ◌∷◌, ◌++◌, length, get_or, count_by, refl, sym, ◌∙◌, ap, ap₂, arith}
use Rattle.std.specs.List.{All, list_all, filter, range_with_len}
use Rattle.std.specs.List.Sorted.{IsPermutation}
use Rattle.std.proofs.lemmas.List.Elements.{All-head, All-tail}
use Rattle.std.proofs.lemmas.List.Sorted.{sum_by-IsPermutation}
use Rattle.std.proofs.lemmas.List.Sums.{sum_by-cons}
use Rattle.std.proofs.lemmas.Bool.{and_from, and_parts, eq-eqb, ne_eqb}
use Rattle.std.proofs.lemmas.Bool.Decides.{nat_tests}
use Rattle.xfs_word.specs.Field.{field_of}
use Rattle.xfs_dirindex.specs.declared.pairs.Pair.{Pair}
use Rattle.xfs_dirindex.specs.declared.data.Best.{Best}
use Rattle.xfs_dirindex.specs.Pairs.{is_stale, is_live, rises, is_pair, times, same_pairs, is_index}
use Rattle.xfs_dirindex.specs.Sorted.{is_pair_upto, PairsRanked}
use Rattle.xfs_dirindex.specs.Leaf.{best_length_of, are_values}
use Rattle.xfs_dirbuild.specs.Index.{IsPointer, AreValues}
use Rattle.xfs_dirbuild.proofs.Rows.{none-stale}

-- a test that holds of each of some numbers
pub range-all : (test : ℕ → Bool) (a n : ℕ) → ((k : ℕ) → a ≤ k → k < a + n → test k ≡ true) → list_all test (range_with_len a n) ≡ true
range-all test a zero holds = refl
range-all test a (suc n) holds =
    and_from _ _ (holds a (omega arith) (omega arith)) (range-all test (a + 1) n (λ k low high. holds k (omega arith) (omega arith)))

pub range-count : (test : ℕ → Bool) (a n : ℕ) → ((k : ℕ) → a ≤ k → k < a + n → test k ≡ true) → count_by test (range_with_len a n) ≡ n
range-count test a zero holds = refl
range-count test a (suc n) holds =
    let one : cond (test a) 1 0 ≡ 1 = ap (λ (b : Bool). cond b 1 0) (holds a (omega arith) (omega arith)) in
    let rest = range-count test (a + 1) n (λ k low high. holds k (omega arith) (omega arith)) in
    sum_by-cons (λ (k : ℕ). cond (test k) 1 0) a (range_with_len (a + 1) n) ∙ (ap₂ (λ (x y : ℕ). x + y) one rest ∙ omega arith)

upto-hash : (q p : Pair) → is_pair_upto q p ≡ true → nat_le q.hash p.hash ≡ true
upto-hash q p upto = on q.hash q.address p.hash p.address upto
  where
    on : (a b c d : ℕ) → (nat_lt a c || (a == c && nat_le b d)) ≡ true → nat_le a c ≡ true
    on a b c d e = grind (arith, nat_tests)

rises-behind : (q : Pair) (ps : List Pair) → list_all (is_pair_upto q) ps ≡ true → PairsRanked ps → rises q.hash ps ≡ true
rises-behind q [] all ranked = refl
rises-behind q (p ∷ ps) all ranked =
    let parts = and_parts (is_pair_upto q p) (list_all (is_pair_upto q) ps) all in
    and_from _ _ (upto-hash q p parts.0) (rises-behind p ps ranked.0 ranked.1)

rises-ranked : (ps : List Pair) → PairsRanked ps → rises 0 ps ≡ true
rises-ranked [] ranked = refl
rises-ranked (p ∷ ps) ranked =
    let low : nat_le 0 p.hash ≡ true = grind (arith, nat_tests) in
    and_from _ _ low (rises-behind p ps ranked.0 ranked.1)

all-live : (ps : List Pair) → All IsPointer ps → filter is_live ps ≡ ps
all-live [] all = refl
all-live (p ∷ ps) all =
    let head = All-head IsPointer p ps all in
    let some : 1 ≤ p.address = head.some in
    let live : is_live p ≡ true = ap not (ne_eqb p.address 0 (λ e. absurd (omega (arith, e, some)))) in
    ap₂ (λ (t : Bool) (xs : List Pair). if t then p ∷ xs else xs) live (all-live ps (All-tail IsPointer p ps all))

all-true : (test : Pair → Bool) → ((p : Pair) → test p ≡ true) → (xs : List Pair) → list_all test xs ≡ true
all-true test each [] = refl
all-true test each (x ∷ xs) = and_from (test x) (list_all test xs) (each x) (all-true test each xs)

pub same-each : (xs ys : List Pair) → ((p : Pair) → times p xs ≡ times p ys) → same_pairs xs ys ≡ true
unfolding same_pairs
same-each xs ys each = all-true (λ p. times p xs == times p ys) (λ p. eq-eqb (times p xs) (times p ys) (each p)) (xs ++ ys)

-- so they are those that are due
pub index-sound : (pairs due : List Pair) (stale : ℕ) → IsPermutation due pairs → PairsRanked pairs → All IsPointer pairs → stale ≡ 0
    → is_index pairs stale due ≡ true
unfolding is_index
index-sound pairs due stale moved ranked pointers none =
    let count : (count_by is_stale pairs == stale) ≡ true = eq-eqb (count_by is_stale pairs) stale (none-stale pairs pointers ∙ sym none) in
    let same : same_pairs (filter is_live pairs) due ≡ true =
    ap (λ (xs : List Pair). same_pairs xs due) (all-live pairs pointers)
    ∙ same-each pairs due (λ p. sum_by-IsPermutation (λ q. cond (is_pair p q) 1 0) due pairs moved) in
    and_from _ _ (and_from _ _ (rises-ranked pairs ranked) count) same

-- values that stand are those of the data blocks
pub values-are : (bests : List Best) (values : List ℕ) (at first : ℕ) (bytes : List ℕ) → AreValues values at bytes
    → ((j : ℕ) → j < length values → best_length_of bests (first + j) ≡ get_or values j 0) → are_values bests bytes at first (length values) ≡ true
unfolding are_values
values-are bests values at first bytes stand each =
    range-all (λ j. field_of bytes (at + 2 * j) 2 == best_length_of bests (first + j)) 0 (length values)
    (λ j low high. eq-eqb _ _ (stand.each j (omega arith) ∙ sym (each j (omega arith))))
