-- The levels of a packed tree, counted one after the other, and how many there are at most.
use Rattle.std.proofs.Common.{◌≡◌, ℕ, zero, suc, ◌+◌, ◌-◌, ◌*◌, ◌/◌, ◌^◌, ◌≤◌, ◌<◌, Bool, true, false, ◌==◌, nat_le, if◌then◌else◌, [], ◌∷◌, length, refl, ◌∙◌, ap, arith}
use Rattle.std.proofs.lemmas.Bool.{leb-false}
use Rattle.std.proofs.Math.Nat.{mul-le-mul_right}
use Rattle.xfs_treebuild.specs.Size.{blocks_for, rows_above, rows_of}
use Rattle.xfs_treebuild.proofs.Rows.{rows_end, rows_next}
use Rattle.xfs_render.specs.Counters.{levels}

-- at the leaves one level is counted
pub levels_begin : (leaf_cap node_cap records leaves : ℕ) → leaves ≡ blocks_for leaf_cap records
    → 1 + length (rows_above leaves node_cap leaves) ≡ levels leaf_cap node_cap records
unfolding rows_of
levels_begin leaf_cap node_cap records leaves value =
    ap (λ n. 1 + length (rows_above n node_cap n)) value ∙ (omega arith)

pub level_more : (most m counted total : ℕ) → 2 ≤ most → 2 ≤ m → counted + length (rows_above m most m) ≡ total
    → counted + 1 + length (rows_above (blocks_for most m) most (blocks_for most m)) ≡ total
level_more most m counted total two some held =
    let next = ap length (rows_next most m two some) in
    omega (arith, next, held)

pub levels_end : (most m counted total : ℕ) → m ≤ 1 → counted + length (rows_above m most m) ≡ total → counted ≡ total
levels_end most m counted total one held =
    let none = ap length (rows_end m most m one) in
    omega (arith, none, held)

-- the powers of 16
power : ℕ → ℕ
power zero = 1
power (suc k) = 16 * power k

power_some : (k : ℕ) → 1 ≤ power k
unfolding power
power_some zero = omega arith
power_some (suc k) = omega (arith, power_some k)

-- a level is at most a sixteenth of the level below
sixteenth : (most m p : ℕ) → 16 ≤ most → 1 ≤ p → m ≤ 16 * p → blocks_for most m ≤ p
sixteenth most m p large some small = by_case (m == 0) refl
  where
    by_case : (t : Bool) → (m == 0) ≡ t → (if t then 1 else ((m - 1) / most + 1)) ≤ p
    by_case true h = some
    by_case false h =
        let q = (m - 1) / most in
        let more : 16 * q ≤ most * q = mul-le-mul_right q large in
        omega (arith, more, large, small, some)

above_few : (k fuel most m : ℕ) → 16 ≤ most → m ≤ power k → length (rows_above fuel most m) ≤ k
unfolding rows_above power
above_few k zero most m large small = omega arith
above_few zero (suc fuel) most m large small = by_case (nat_le m 1) refl
  where
    by_case : (t : Bool) → nat_le m 1 ≡ t → length (if t then [] else (blocks_for most m ∷ rows_above fuel most (blocks_for most m))) ≤ 0
    by_case true h = omega arith
    by_case false h = absurd (omega (arith, small, leb-false m 1 h))
above_few (suc k) (suc fuel) most m large small =
    by_case (nat_le m 1) refl (above_few k fuel most (blocks_for most m) large (sixteenth most m (power k) large (power_some k) small))
  where
    by_case : (t : Bool) → nat_le m 1 ≡ t → length (rows_above fuel most (blocks_for most m)) ≤ k
        → length (if t then [] else (blocks_for most m ∷ rows_above fuel most (blocks_for most m))) ≤ suc k
    by_case true h few = omega arith
    by_case false h few = omega (arith, few)

-- there are at most nine levels, and at least one
pub levels_few : (leaf_cap node_cap records : ℕ) → 16 ≤ leaf_cap → 16 ≤ node_cap → records < 2 ^ 28
    → (1 ≤ levels leaf_cap node_cap records) × (levels leaf_cap node_cap records ≤ 9)
unfolding rows_of power
levels_few leaf_cap node_cap records leaves nodes few =
    let b = blocks_for leaf_cap records in
    let small : b ≤ power 6 = sixteenth leaf_cap records (power 6) leaves (power_some 6) (omega (arith, few)) in
    let above : length (rows_above b node_cap b) ≤ 6 = above_few 6 b node_cap b nodes small in
    (omega arith, omega (arith, above))
