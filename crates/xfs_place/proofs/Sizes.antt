-- How many blocks a packed tree has at most, and at least.
use Rattle.std.proofs.Common.{◌≡◌, ℕ, zero, suc, ◌+◌, ◌-◌, ◌*◌, ◌/◌, ◌≤◌, ◌<◌, Bool, true, false, ◌==◌, nat_le, if◌then◌else◌, List, [], ◌∷◌, refl, arith}
use Rattle.std.specs.List.{fold, sum}
use Rattle.std.proofs.lemmas.Bool.{eqb-true, leb-false}
use Rattle.std.proofs.Math.Nat.{mul-le-mul_right}
use Rattle.xfs_treebuild.specs.Size.{blocks_for, rows_above, rows_of}
use Rattle.xfs_place.specs.Choice.{blocks_of_size}

-- a sum begins with its first number
sum_from : (a : ℕ) (rows : List ℕ) → fold ◌+◌ a rows ≡ a + sum rows
sum_from a [] = omega arith
sum_from a (x ∷ rows) =
    let head = sum_from (a + x) rows in
    let tail = sum_from (0 + x) rows in
    omega (arith, head, tail)

-- the blocks of a level above some blocks are at most half as many, and one more
half : (most m : ℕ) → 2 ≤ most → 1 ≤ m → 2 * blocks_for most m ≤ m + 1
half most m two some = by_case (m == 0) refl
  where
    by_case : (t : Bool) → (m == 0) ≡ t → 2 * (if t then 1 else ((m - 1) / most + 1)) ≤ m + 1
    by_case true h = absurd (omega (arith, some, eqb-true m 0 h))
    by_case false h =
        let q = (m - 1) / most in
        let more : 2 * q ≤ most * q = mul-le-mul_right q two in
        omega (arith, more, some, two)

blocks_small : (most n : ℕ) → 1 ≤ most → (1 ≤ blocks_for most n) × (blocks_for most n ≤ n + 1)
blocks_small most n some = by_case (n == 0) refl
  where
    by_case : (t : Bool) → (n == 0) ≡ t → (1 ≤ (if t then 1 else ((n - 1) / most + 1))) × ((if t then 1 else ((n - 1) / most + 1)) ≤ n + 1)
    by_case true h = (omega arith, omega arith)
    by_case false h =
        let q = (n - 1) / most in
        let more : 1 * q ≤ most * q = mul-le-mul_right q some in
        (omega arith, omega (arith, more, some))

above_small : (fuel most m : ℕ) → 2 ≤ most → 1 ≤ m → sum (rows_above fuel most m) ≤ 2 * m
unfolding rows_above
above_small zero most m two some = omega arith
above_small (suc fuel) most m two some =
    let b = blocks_for most m in
    by_case (nat_le m 1) refl (above_small fuel most b two (blocks_small most m (omega (arith, two))).0) (sum_from (0 + b) (rows_above fuel most b))
  where
    by_case : (t : Bool) → nat_le m 1 ≡ t → sum (rows_above fuel most (blocks_for most m)) ≤ 2 * blocks_for most m
        → fold ◌+◌ (0 + blocks_for most m) (rows_above fuel most (blocks_for most m)) ≡ 0 + blocks_for most m + sum (rows_above fuel most (blocks_for most m))
        → sum (if t then [] else (blocks_for most m ∷ rows_above fuel most (blocks_for most m))) ≤ 2 * m
    by_case true h so first = omega arith
    by_case false h so first = omega (arith, so, first, half most m two some, leb-false m 1 h)

pub size_small : (leaf node n : ℕ) → 1 ≤ leaf → 2 ≤ node → (0 < blocks_of_size leaf node n) × (blocks_of_size leaf node n ≤ 3 * n + 3)
unfolding rows_of
size_small leaf node n some two =
    let b = blocks_for leaf n in
    let small = blocks_small leaf n some in
    let above = above_small b node b two small.0 in
    let first = sum_from (0 + b) (rows_above b node b) in
    (omega (arith, small.0, first), omega (arith, small.1, above, first))
