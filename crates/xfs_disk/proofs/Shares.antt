-- Items shared out over the blocks of a row.
use Rattle.std.proofs.Common.{◌≡◌, ℕ, ◌+◌, ◌*◌, ◌/◌, ◌%◌, ◌<◌, ◌≤◌, ◌⊎◌, inl, inr, ap, ◌∙◌, arith}
use Rattle.std.proofs.Math.Nat.{div-add-mod', mod-lt, div-le_of_le-mul, lt_of_mul-lt-mul_right, mul-le-mul_right, lt-mul-div-succ}
use Rattle.std.proofs.lemmas.Bool.{cases_lt}
use Rattle.std.proofs.lemmas.Bool.Decides.{nat_tests}
use Rattle.xfs_disk.specs.Shares.{share_of, first_of_share}

pub share_next : (n m i : ℕ) → first_of_share n m (i + 1) ≡ first_of_share n m i + share_of n m i
share_next n m i = grind (arith, nat_tests)

pub first_end : (n m : ℕ) → 1 ≤ m → first_of_share n m m ≡ n
first_end n m some =
    let whole : n / m * m + n % m ≡ n = div-add-mod' n m in
    let short : n % m < m = mod-lt n (omega arith) in
    omega (arith, whole, short)

pub first_up : (n m i j : ℕ) → i ≤ j → first_of_share n m i ≤ first_of_share n m j
first_up n m i j up =
    let more : i * (n / m) ≤ j * (n / m) = mul-le-mul_right (n / m) up in
    omega (arith, more)

pub share_inside : (n m i : ℕ) → i < m → first_of_share n m i + share_of n m i ≤ n
share_inside n m i inside =
    let next = share_next n m i in
    let end = first_end n m (omega arith) in
    let up = first_up n m (i + 1) m (omega arith) in
    omega (arith, next, end, up)

pub share_some : (n m i : ℕ) → 1 ≤ m → m ≤ n → 1 ≤ share_of n m i
share_some n m i some enough =
    let more : n < m * (n / m + 1) = lt-mul-div-succ n (omega arith) in
    by_size (cases_lt (n / m) 1) more
  where
    by_size : (n / m < 1) ⊎ (1 ≤ n / m) → n < m * (n / m + 1) → 1 ≤ share_of n m i
    by_size (inl none) more =
        let zero : n / m ≡ 0 = omega arith in
        let one : m * (n / m + 1) ≡ m = ap (λ (q : ℕ). m * (q + 1)) zero ∙ omega arith in
        absurd (omega (arith, more, one))
    by_size (inr some) more = grind (arith, nat_tests)

pub share_most : (n m i most : ℕ) → i < m → n ≤ m * most → share_of n m i ≤ most
share_most n m i most inside room =
    let whole : n / m * m + n % m ≡ n = div-add-mod' n m in
    let all : n / m ≤ most = div-le_of_le-mul m room in
    by_rest (cases_lt i (n % m)) whole all
  where
    by_rest : (i < n % m) ⊎ (n % m ≤ i) → n / m * m + n % m ≡ n → n / m ≤ most → share_of n m i ≤ most
    by_rest (inl more) whole all =
        let turned : m * most ≡ most * m = omega arith in
        let less : n / m * m < most * m = omega (arith, whole, turned) in
        let below : n / m < most = lt_of_mul-lt-mul_right m less in
        grind (arith, nat_tests)
    by_rest (inr none) whole all = grind (arith, nat_tests)
