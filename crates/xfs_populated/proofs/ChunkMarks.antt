-- The chunks of a new volume say which of their inodes are in use: those of the files and of the system, in front.
use Rattle.std.proofs.Common.{◌≡◌, ◌⊎◌, inl, inr, ℕ, zero, suc, Bool, true, false, not, ◌||◌, ◌&&◌, ◌+◌, ◌-◌, ◌*◌, ◌/◌, ◌%◌, ◌^◌, ◌==◌, ◌≤◌, ◌<◌, nat_le, nat_lt, map, refl, sym, ap, ap₂, ◌∙◌, arith}
use Rattle.std.specs.List.{list_any, range_with_len}
use Rattle.std.proofs.Math.Nat.{zero-div}
use Rattle.std.proofs.lemmas.Bool.{and_from, and_right, cases_lt, eq-eqb, le-leb, le-ltb, lt-leb, lt-ltb, ne_eqb}
use Rattle.xfs_kinds.specs.InodeTrees.{is_missing}
use Rattle.xfs_laws.specs.Counting.{bit_of, bits_below, count_below}

-- tests that agree below a number count the same, and set the same bits
pub count_same : (p q : ℕ → Bool) (n : ℕ) → ((i : ℕ) → i < n → p i ≡ q i) → count_below p n ≡ count_below q n
count_same p q zero same = refl
count_same p q (suc n) same = ap₂ (λ (m : ℕ) (t : Bool). m + bit_of t) (count_same p q n (λ i low. same i (omega (arith, low)))) (same n (omega arith))

pub bits_same : (p q : ℕ → Bool) (n : ℕ) → ((i : ℕ) → i < n → p i ≡ q i) → bits_below p n ≡ bits_below q n
bits_same p q zero same = refl
bits_same p q (suc n) same = ap₂ (λ (m : ℕ) (t : Bool). m + bit_of t * 2 ^ n) (bits_same p q n (λ i low. same i (omega (arith, low)))) (same n (omega arith))

-- those from a number on
abbrev pub is_from : ℕ → ℕ → Bool
is_from u i = not (nat_lt i u)

from_low : (u i : ℕ) → i < u → is_from u i ≡ false
from_low u i low = ap not (lt-ltb i u low)

from_high : (u i : ℕ) → u ≤ i → is_from u i ≡ true
from_high u i high = ap not (le-ltb i u high)

pub count_from : (u n : ℕ) → count_below (is_from u) n ≡ n - u
count_from u zero = omega arith
count_from u (suc n) = by_case (count_from u n) (cases_lt n u)
  where
    by_case : count_below (is_from u) n ≡ n - u → (n < u) ⊎ (u ≤ n) → count_below (is_from u) n + bit_of (is_from u n) ≡ suc n - u
    by_case rest (inl low) = let here : bit_of (is_from u n) ≡ 0 = ap bit_of (from_low u n low) in omega (arith, rest, here, low)
    by_case rest (inr high) = let here : bit_of (is_from u n) ≡ 1 = ap bit_of (from_high u n high) in omega (arith, rest, here, high)

bits_none : (u n : ℕ) → n ≤ u → bits_below (is_from u) n ≡ 0
bits_none u zero low = refl
bits_none u (suc n) low =
    let rest = bits_none u n (omega (arith, low)) in
    let here : bit_of (is_from u n) * 2 ^ n ≡ 0 = ap (λ (t : Bool). bit_of t * 2 ^ n) (from_low u n (omega (arith, low))) ∙ omega arith in
    omega (arith, rest, here)

bits_up : (u k n : ℕ) → n ≡ u + k → bits_below (is_from u) n + 2 ^ u ≡ 2 ^ n
bits_up u zero n at =
    let same : n ≡ u = omega (arith, at) in
    let none = bits_none u n (omega (arith, at)) in
    let power : 2 ^ n ≡ 2 ^ u = ap (λ (m : ℕ). 2 ^ m) same in
    omega (arith, none, power)
bits_up u (suc k) zero at = absurd (omega (arith, at))
bits_up u (suc k) (suc n) at =
    let rest = bits_up u k n (omega (arith, at)) in
    let here : bit_of (is_from u n) * 2 ^ n ≡ 2 ^ n = ap (λ (t : Bool). bit_of t * 2 ^ n) (from_high u n (omega (arith, at))) ∙ omega arith in
    let power : 2 ^ suc n ≡ 2 * 2 ^ n = pow_next n in
    omega (arith, rest, here, power)
  where
    pow_next : (n : ℕ) → 2 ^ suc n ≡ 2 * 2 ^ n
    pow_next n = omega arith

pub bits_from : (u : ℕ) → u ≤ 64 → bits_below (is_from u) 64 ≡ 2 ^ 64 - 2 ^ u
bits_from u few =
    let all = bits_up u (64 - u) 64 (omega (arith, few)) in
    omega (arith, all)

-- no inode of a whole chunk is missing
pub none_missing : (i : ℕ) → is_missing 0 i ≡ false
none_missing i = ap (λ (n : ℕ). n % 2 == 1) (zero-div (2 ^ (i / 4)))

-- a number is among numbers in a row that ascend where its place is
pub among_row : (number : ℕ → ℕ) (top j : ℕ) → ((i k : ℕ) → i < k → k < top → number i < number k) → j < top → (a m : ℕ) → a + m ≤ top
    → list_any (λ (n : ℕ). n == number j) (map number (range_with_len a m)) ≡ (nat_le a j && nat_lt j (a + m))
among_row number top j up low a zero inside = sym (none (cases_lt j a))
  where
    none : (j < a) ⊎ (a ≤ j) → (nat_le a j && nat_lt j (a + 0)) ≡ false
    none (inl less) = ap (λ (t : Bool). t && nat_lt j (a + 0)) (lt-leb a j less)
    none (inr more) = and_right (nat_le a j) (nat_lt j (a + 0)) (le-ltb j (a + 0) (omega (arith, more)))
among_row number top j up low a (suc m) inside =
    by_case (among_row number top j up low (a + 1) m (omega (arith, inside))) (cases_lt j a) (cases_lt a j)
  where
    by_case : list_any (λ (n : ℕ). n == number j) (map number (range_with_len (a + 1) m)) ≡ (nat_le (a + 1) j && nat_lt j (a + 1 + m))
        → (j < a) ⊎ (a ≤ j) → (a < j) ⊎ (j ≤ a)
        → ((number a == number j) || list_any (λ (n : ℕ). n == number j) (map number (range_with_len (a + 1) m))) ≡ (nat_le a j && nat_lt j (a + suc m))
    by_case behind (inl before) other =
        let less = up j a before (omega (arith, inside)) in
        ap₂ (λ (s t : Bool). s || t) (ne_eqb (number a) (number j) (λ same. absurd (omega (arith, same, less))))
        (behind ∙ ap (λ (t : Bool). t && nat_lt j (a + 1 + m)) (lt-leb (a + 1) j (omega (arith, before))))
        ∙ sym (ap (λ (t : Bool). t && nat_lt j (a + suc m)) (lt-leb a j before))
    by_case behind (inr from) (inl after) =
        let less = up a j after low in
        let next : a + 1 + m ≡ a + suc m = omega arith in
        ap₂ (λ (s t : Bool). s || t) (ne_eqb (number a) (number j) (λ same. absurd (omega (arith, same, less))))
        (behind ∙ ap₂ (λ (s : Bool) (n : ℕ). s && nat_lt j n) (le-leb (a + 1) j (omega (arith, after)) ∙ sym (le-leb a j from)) next)
    by_case behind (inr from) (inr upto) =
        let same : a ≡ j = omega (arith, from, upto) in
        ap (λ (t : Bool). t || list_any (λ (n : ℕ). n == number j) (map number (range_with_len (a + 1) m))) (eq-eqb (number a) (number j) (ap number same))
        ∙ sym (and_from (nat_le a j) (nat_lt j (a + suc m)) (le-leb a j from) (lt-ltb j (a + suc m) (omega (arith, upto))))
