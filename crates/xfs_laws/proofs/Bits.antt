-- Numbers below a bound that pass a test, counted and as bits.
use Rattle.std.proofs.Common.{◌≡◌, ℕ, zero, suc, ◌+◌, ◌*◌, ◌%◌, ◌^◌, ◌<◌, ◌≤◌, Bool, true, false, ap, ◌∙◌, arith, add-one}
use Rattle.std.proofs.Math.Pow.{pow-lt, pow_mono}
use Rattle.std.proofs.Math.Nat.{mod-eq_of_lt}
use Rattle.xfs_laws.specs.Counting.{bit_of, bits_below, count_below}

pub bit_small : (b : Bool) → bit_of b ≤ 1
bit_small true = omega arith
bit_small false = omega arith

pub count_small : (test : ℕ → Bool) (n : ℕ) → count_below test n ≤ n
count_small test zero = omega arith
count_small test (suc n) = omega (arith, count_small test n, bit_small (test n))

-- a power of two, once or not at all
pub part_small : (b power : ℕ) → b ≤ 1 → b * power ≤ power
part_small zero power small = omega arith
part_small (suc zero) power small = omega arith
part_small (suc (suc b)) power small = absurd (omega arith)

pub bits_small : (test : ℕ → Bool) (n : ℕ) → bits_below test n < 2 ^ n
bits_small test zero = omega arith
bits_small test (suc n) =
    let low : bits_below test n < 2 ^ n = bits_small test n in
    let part : bit_of (test n) * 2 ^ n ≤ 2 ^ n = part_small (bit_of (test n)) (2 ^ n) (bit_small (test n)) in
    let double : 2 ^ suc n ≡ 2 ^ n + 2 ^ n = omega arith in
    omega arith

-- a bit that is shifted by less than 64 places stays
pub shifted : (b n : ℕ) → b ≤ 1 → n < 64 → b * 2 ^ n % 2 ^ 64 ≡ b * 2 ^ n
shifted b n small low =
    let power : 2 ^ n < 2 ^ 64 = pow-lt low in
    let part : b * 2 ^ n ≤ 2 ^ n = part_small b (2 ^ n) small in
    mod-eq_of_lt (omega arith)

pub shifted_small : (b n : ℕ) → b ≤ 1 → n < 64 → b * 2 ^ n % 2 ^ 64 ≤ 2 ^ n
shifted_small b n small low =
    let same : b * 2 ^ n % 2 ^ 64 ≡ b * 2 ^ n = shifted b n small low in
    let part : b * 2 ^ n ≤ 2 ^ n = part_small b (2 ^ n) small in
    omega arith

-- what is below a power of two has room for the power, in 64 bits
pub room : (low part n : ℕ) → low < 2 ^ n → part ≤ 2 ^ n → n < 64 → low + part < 2 ^ 64
room low part n small less few =
    let power : 2 ^ suc n ≤ 2 ^ 64 = pow_mono few in
    let double : 2 ^ suc n ≡ 2 ^ n + 2 ^ n = omega arith in
    omega arith

-- one number more
pub count_more : (test : ℕ → Bool) (n : ℕ) {old bit : ℕ} (passes : Bool) → passes ≡ test n → bit ≡ bit_of passes → old ≡ count_below test n
    → old + bit ≡ count_below test (n + 1)
count_more test n {old} {bit} passes known is counted =
    let one : bit ≡ bit_of (test n) = is ∙ ap bit_of known in
    let more : count_below test (n + 1) ≡ count_below test n + bit_of (test n) = ap (count_below test) (add-one n) in
    omega arith

pub bits_more : (test : ℕ → Bool) (n : ℕ) {old bit : ℕ} (passes : Bool) → passes ≡ test n → bit ≡ bit_of passes → bit ≤ 1 → n < 64
    → old ≡ bits_below test n → old + bit * 2 ^ n % 2 ^ 64 ≡ bits_below test (n + 1)
bits_more test n {old} {bit} passes known is small low marked =
    let one : bit * 2 ^ n ≡ bit_of (test n) * 2 ^ n = ap (λ (b : ℕ). b * 2 ^ n) (is ∙ ap bit_of known) in
    let same : bit * 2 ^ n % 2 ^ 64 ≡ bit * 2 ^ n = shifted bit n small low in
    let more : bits_below test (n + 1) ≡ bits_below test n + bit_of (test n) * 2 ^ n = ap (bits_below test) (add-one n) in
    omega arith
