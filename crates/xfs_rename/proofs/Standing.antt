-- Records that stand by number.
use Rattle.std.proofs.Common.{ℕ, zero, suc, ◌<◌, ◌≤◌, List, [], ◌∷◌, length, get_or, arith}
use Rattle.std.specs.List.Sorted.{IsNonDecreasingBy}
use Rattle.xfs_rebuild.specs.xfs_request.Slots.{StandByNumber}

-- each number is at least the least
pub above : {A : Type 0} (n : A → ℕ) (low : ℕ) (xs : List A) → StandByNumber n low xs → (j : ℕ) (d : A) → j < length xs → low ≤ n (get_or xs j d)
above n low [] s j d h = absurd (omega (arith, h))
above n low (x ∷ xs) s zero d h = s.0
above n low (x ∷ xs) s (suc j) d h = let rest : n x ≤ n (get_or xs j d) = above n (n x) xs s.1 j d (omega (arith, h)) in omega (arith, rest, s.0)

-- as a fact of each pair of places
pub in_order : {A : Type 0} (n : A → ℕ) (low : ℕ) (xs : List A) → StandByNumber n low xs → IsNonDecreasingBy n xs
in_order n low [] s i j d le h = absurd (omega (arith, h))
in_order n low (x ∷ xs) s zero zero d le h = omega arith
in_order n low (x ∷ xs) s zero (suc j) d le h = above n (n x) xs s.1 j d (omega (arith, h))
in_order n low (x ∷ xs) s (suc i) zero d le h = absurd (omega (arith, le))
in_order n low (x ∷ xs) s (suc i) (suc j) d le h = in_order n (n x) xs s.1 i j d (omega (arith, le)) (omega (arith, h))

-- and from it
pub stands : {A : Type 0} (n : A → ℕ) (low : ℕ) (xs : List A) → ((d : A) → 0 < length xs → low ≤ n (get_or xs 0 d)) → IsNonDecreasingBy n xs → StandByNumber n low xs
stands n low [] first up = tt
stands n low (x ∷ xs) first up = (first x (omega arith), stands n (n x) xs (λ d h. up 0 1 d (omega arith) (omega (arith, h))) (λ i j d le h. up (suc i) (suc j) d (omega (arith, le)) (omega (arith, h))))

pub stands_from_none : {A : Type 0} (n : A → ℕ) (xs : List A) → IsNonDecreasingBy n xs → StandByNumber n 0 xs
stands_from_none n xs up = stands n 0 xs (λ d h. omega arith) up
