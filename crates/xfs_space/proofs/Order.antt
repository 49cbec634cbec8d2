-- What a sort of runs gives rises, and has the same runs.
use Rattle.std.proofs.Common.{◌≡◌, ℕ, suc, ◌+◌, ◌<◌, ◌≤◌, false, List, [], ◌∷◌, length, take, drop, ◌++◌, ◌∙◌, ap, subst, arith, get_or}
use Rattle.std.specs.List.Sorted.{IsPermutation, IsSorted}
use Rattle.std.specs.declared.cmp.Ordering.{Ordering}
use Rattle.std.specs.Ordering.{is_lt, nat_cmp, ordering_then}
use Rattle.std.proofs.lemmas.Bool.Decides.{nat_tests}
use Rattle.std.proofs.lemmas.List.{append-nil, drop_all, take_all}
use Rattle.std.proofs.lemmas.List.Sorted.{IsPermutation-append_left, IsPermutation-append_right}
use borrow.Rule.Slice.PartMut.{mid_of, post_of, put_mid, put_same}
use Rattle.xfs_geom.specs.contracts.records.RunOrd.TheImpl.{cmp-value}
use Rattle.xfs_geom.specs.declared.records.Run.{Run}
use Rattle.xfs_space.specs.Sorted.{StartsRise}

-- the start decides first
starts_first : (x y : Run) → is_lt (cmp-value.it y x) ≡ false → x.start ≤ y.start
starts_first x y e = on x.start y.start (ordering_then (nat_cmp y.count x.count) (ordering_then (nat_cmp y.owner x.owner) (nat_cmp y.offset_word x.offset_word))) e
  where
    on : (a b : ℕ) (rest : Ordering) → is_lt (ordering_then (nat_cmp b a) rest) ≡ false → a ≤ b
    on a b rest e = grind (arith, nat_tests)

pub rise_if_sorted : (xs : List Run) (low : ℕ) → (0 < length xs → (d : Run) → low ≤ (get_or xs 0 d).start) → IsSorted cmp-value.it xs → StartsRise low xs
rise_if_sorted [] low first sorted = tt
rise_if_sorted (x ∷ []) low first sorted = (first (omega arith) x, tt)
rise_if_sorted (x ∷ y ∷ ys) low first sorted =
    let up : x.start ≤ y.start = starts_first x y (sorted 0 x (omega arith) (omega arith)) in
    let later = λ (k : ℕ) (d : Run) (from : 0 ≤ k) (to : k + 1 < length (y ∷ ys)).
    let shift : suc k + 1 ≡ suc (k + 1) = omega arith in
    subst (λ (n : ℕ). is_lt (cmp-value.it (get_or (x ∷ y ∷ ys) n d) (get_or (x ∷ y ∷ ys) (suc k) d)) ≡ false) shift (sorted (suc k) d (omega arith) (omega arith)) in
    (first (omega arith) x, rise_if_sorted (y ∷ ys) x.start (λ some d. up) later)

-- a list that is written back whole
pub restored : (s items : List Run) (len : ℕ) → length s ≡ len → length items ≡ len → take len (s ++ drop (length s) items) ≡ s
restored s items len size same =
    let none : drop (length s) items ≡ [] = drop_all (length s) items (omega (arith, size, same)) in
    rw none (ap (take len) (append-nil s) ∙ take_all len s (omega (arith, size)))

-- a part of a list in another order
pub moved_part : (a k : ℕ) (xs ys : List Run) → IsPermutation (mid_of a k xs) ys → IsPermutation xs (put_mid a k xs ys)
moved_part a k xs ys moved =
    let behind = post_of a k xs in
    subst (λ (zs : List Run). IsPermutation zs (put_mid a k xs ys)) (put_same a k xs)
    (IsPermutation-append_right (take a xs) (mid_of a k xs ++ behind) (ys ++ behind) (IsPermutation-append_left behind (mid_of a k xs) ys moved))
