-- The place of a number among records in order, found by a search or tested at the places beside it.
use Rattle.std.proofs.Common.{◌≡◌, ℕ, ◌<◌, ◌≤◌, ◌-◌, true, false, List, length, get_or, sym, ap, ◌∙◌, arith}
use lib.Dec.{ltb}
use Rattle.std.specs.List.{AllWithin}
use Rattle.std.specs.List.Sorted.{IsPartitionPoint, IsNonDecreasingBy}
use Rattle.std.proofs.lemmas.Bool.{ltb-true, ltb-false, lt-ltb, le-ltb}
use Rattle.std.proofs.lemmas.List.{get_or_default}
use Rattle.xfs_naming.specs.Private.Places.{IsPlace}

-- what a search finds, in numbers
pub place_of_point : {X : Type 0} (key : X → ℕ) (v : ℕ) (xs : List X) (s : ℕ) → IsPartitionPoint (λ (y : X). ltb (key y) v ≡ true) (λ (y : X). ltb (key y) v ≡ false) xs s → IsPlace key v xs s
place_of_point key v xs s point = record {
  before = λ k d low high. ltb-true (key (get_or xs k d)) v (point.0 k d low high);
  from = λ k d low high. ltb-false (key (get_or xs k d)) v (point.1 k d low high);
}

pub point_of_place : {X : Type 0} (key : X → ℕ) (v : ℕ) (xs : List X) (s : ℕ) → IsPlace key v xs s → IsPartitionPoint (λ (y : X). ltb (key y) v ≡ true) (λ (y : X). ltb (key y) v ≡ false) xs s
point_of_place key v xs s place = (
  (λ k d low high. lt-ltb (key (get_or xs k d)) v (place.before k d low high)),
  (λ k d low high. le-ltb (key (get_or xs k d)) v (place.from k d low high)),
)

-- where the last one before a place is less, all before it are
pub less_before : {X : Type 0} (key : X → ℕ) (v : ℕ) (xs : List X) (s : ℕ) (x : X) → 0 < s → s ≤ length xs → IsNonDecreasingBy key xs
    → x ≡ get_or xs (s - 1) x → key x < v → AllWithin (λ (y : X). key y < v) xs 0 s
less_before key v xs s x some inside rises is less = λ k d low high.
    let up : key (get_or xs k d) ≤ key (get_or xs (s - 1) d) = rises k (s - 1) d (omega (arith, some, high)) (omega (arith, some, inside)) in
    let same : key (get_or xs (s - 1) d) ≡ key x = ap key (get_or_default xs (s - 1) d x (omega (arith, some, inside)) ∙ sym is) in
    omega (arith, up, same, less)

-- where the one at a place is not less, none from it on is
pub none_less_from : {X : Type 0} (key : X → ℕ) (v : ℕ) (xs : List X) (s : ℕ) (x : X) → s < length xs → IsNonDecreasingBy key xs
    → x ≡ get_or xs s x → v ≤ key x → AllWithin (λ (y : X). v ≤ key y) xs s (length xs)
none_less_from key v xs s x inside rises is least = λ k d low high.
    let up : key (get_or xs s d) ≤ key (get_or xs k d) = rises s k d low high in
    let same : key (get_or xs s d) ≡ key x = ap key (get_or_default xs s d x inside ∙ sym is) in
    omega (arith, up, same, least)
