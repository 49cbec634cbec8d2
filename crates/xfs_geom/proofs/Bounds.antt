-- Bounds on powers, products and quotients.
use Rattle.std.proofs.Common.{◌≡◌, ℕ, ◌+◌, ◌-◌, ◌*◌, ◌/◌, ◌^◌, ◌≤◌, ◌<◌, Bool, if◌then◌else◌, Fits, w32, sym, ◌∙◌, ap, arith}
use Rattle.std.proofs.Math.Nat.{lt-div-mul-add, mul-le-mul_right}
use Rattle.std.proofs.lemmas.Bool.{eq-eqb, ne_eqb}
use Rattle.xfs_geom.specs.Groups.{blocks_of_group}

-- a group below 512 of fewer than 2^32 blocks begins below 2^41
pub product : (a b : ℕ) → a < 512 → b < 2 ^ 32 → a * b < 2 ^ 41
product a b few short = grind arith

-- a number whose quotient by at most 2^26 is below 512 is below 2^35
pub quotient : (x n : ℕ) → 0 < n → n ≤ 2 ^ 26 → x / n < 512 → x < 2 ^ 35
quotient x n pos small few =
    let below : x < x / n * n + n = lt-div-mul-add pos in
    let most : x / n * n ≤ 511 * 2 ^ 26 = grind arith in
    omega arith

-- each group begins before the last one's first 64 blocks end
pub group_start : (g n w d : ℕ) → g < n → (n - 1) * w + 64 ≤ d → g * w < d
group_start g n w d within last =
    let most : g * w ≤ (n - 1) * w = mul-le-mul_right w (omega arith) in
    omega arith

-- what the last of n groups has, which begins at s
pub last_value : (d w n g s : ℕ) → g + 1 ≡ n → s ≡ g * w → d - s ≡ blocks_of_group d w n g
last_value d w n g s last start =
    ap (λ (x : ℕ). d - x) start ∙ ap (λ (b : Bool). if b then d - g * w else w) (sym (eq-eqb (g + 1) n last))

pub last_least : (d w n g s : ℕ) → g + 1 ≡ n → s ≡ g * w → (n - 1) * w + 64 ≤ d → 64 ≤ d - s
last_least d w n g s last start least =
    let same : (n - 1) * w ≡ g * w = ap (λ (x : ℕ). x * w) (omega (arith, last)) in
    omega (arith, start, least, same)

pub last_most : (d w n g s : ℕ) → g + 1 ≡ n → s ≡ g * w → d ≤ n * w → d - s ≤ w
last_most d w n g s last start covered =
    let same : n * w ≡ (g + 1) * w = ap (λ (x : ℕ). x * w) (sym last) in
    omega (arith, start, covered, same)

pub last_inside : (d w g s : ℕ) → s ≡ g * w → s < d → g * w + (d - s) ≤ d
last_inside d w g s start inside = omega (arith, start, inside)

pub last_fits : (d s : ℕ) → d ≤ 2 ^ 26 → Fits w32 (d - s)
last_fits d s small = omega (arith, small)

-- what another has
pub other_value : (d w n g : ℕ) → (g + 1 ≡ n → ⊥) → w ≡ blocks_of_group d w n g
other_value d w n g other = ap (λ (b : Bool). if b then d - g * w else w) (sym (ne_eqb (g + 1) n other))

pub other_inside : (d w n g : ℕ) → g < n → (g + 1 ≡ n → ⊥) → (n - 1) * w + 64 ≤ d → g * w + w ≤ d
other_inside d w n g within other least =
    let most : (g + 1) * w ≤ (n - 1) * w = mul-le-mul_right w (omega (arith, within, other)) in
    omega (arith, most, least)
