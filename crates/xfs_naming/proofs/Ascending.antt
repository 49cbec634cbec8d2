-- Ascending numbers: where one stands among them, and that they rise.
use Rattle.std.proofs.Common.{◌≡◌, ℕ, zero, suc, ◌+◌, ◌<◌, ◌≤◌, true, false, ◌==◌, nat_lt, List, [], ◌∷◌, length, get_or, refl, ap, arith, inl, inr}
use Rattle.std.specs.List.{insert}
use Rattle.std.proofs.lemmas.Bool.{cases_order}
use Rattle.std.proofs.lemmas.Bool.Decides.{nat_tests}
use Rattle.xfs_naming.specs.Naming.{NumbersAscend}
use Rattle.xfs_disk.specs.Lists.{with_number}

-- none is below the first bound
pub ascend_low : (low : ℕ) (xs : List ℕ) → NumbersAscend low xs → (k : ℕ) → k < length xs → low ≤ get_or xs k 0
ascend_low low [] up k h = absurd (omega arith)
ascend_low low (x ∷ xs) up zero h = up.0
ascend_low low (x ∷ xs) up (suc k) h = let next : x + 1 ≤ get_or xs k 0 = ascend_low (x + 1) xs up.1 k (omega arith) in omega (arith, up.0)

-- they rise
pub ascend_rises : (low : ℕ) (xs : List ℕ) → NumbersAscend low xs → (i j : ℕ) → i ≤ j → j < length xs → get_or xs i 0 ≤ get_or xs j 0
ascend_rises low [] up i j le h = absurd (omega arith)
ascend_rises low (x ∷ xs) up zero zero le h = omega arith
ascend_rises low (x ∷ xs) up zero (suc j) le h = let next : x + 1 ≤ get_or xs j 0 = ascend_low (x + 1) xs up.1 j (omega arith) in omega arith
ascend_rises low (x ∷ xs) up (suc i) zero le h = absurd (omega arith)
ascend_rises low (x ∷ xs) up (suc i) (suc j) le h = ascend_rises (x + 1) xs up.1 i j (omega arith) (omega arith)

-- a number that is there
pub already : (low n : ℕ) (xs : List ℕ) (i : ℕ) → NumbersAscend low xs → i < length xs → get_or xs i 0 ≡ n → xs ≡ with_number n xs
already low n [] i up h e = absurd (omega arith)
already low n (x ∷ xs) zero up h e =
    let behind : nat_lt n x ≡ false = grind (arith, nat_tests) in
    let here : n == x ≡ true = grind (arith, nat_tests) in
    rw (behind, here) refl
already low n (x ∷ xs) (suc i) up h e =
    let next : x + 1 ≤ get_or xs i 0 = ascend_low (x + 1) xs up.1 i (omega arith) in
    let behind : nat_lt n x ≡ false = grind (arith, nat_tests) in
    let apart : n == x ≡ false = grind (arith, nat_tests) in
    rw (behind, apart) (ap (λ (ys : List ℕ). x ∷ ys) (already (x + 1) n xs i up.1 (omega arith) e))

-- a number that is not there, at its place
pub placed : (n : ℕ) (xs : List ℕ) (i : ℕ) → i ≤ length xs → ((k : ℕ) → k < i → get_or xs k 0 < n) → ((k : ℕ) → i ≤ k → k < length xs → n < get_or xs k 0) → insert xs i n ≡ with_number n xs
placed n [] zero h before after = refl
placed n [] (suc i) h before after = absurd (omega arith)
placed n (x ∷ xs) zero h before after =
    let first : n < x = after 0 (omega arith) (omega arith) in
    let here : nat_lt n x ≡ true = grind (arith, nat_tests) in
    rw here refl
placed n (x ∷ xs) (suc i) h before after =
    let first : x < n = before 0 (omega arith) in
    let behind : nat_lt n x ≡ false = grind (arith, nat_tests) in
    let apart : n == x ≡ false = grind (arith, nat_tests) in
    rw (behind, apart) (ap (λ (ys : List ℕ). x ∷ ys) (placed n xs i (omega arith) (λ k l. before (suc k) (omega arith)) (λ k l m. after (suc k) (omega arith) (omega arith))))

-- with a number they still ascend
pub ascend_with : (low n : ℕ) (xs : List ℕ) → NumbersAscend low xs → low ≤ n → NumbersAscend low (with_number n xs)
ascend_with low n [] up le = (le, tt)
ascend_with low n (x ∷ xs) up le = elim (cases_order x n) [
  | inl same ↦ (let behind : nat_lt n x ≡ false = grind (arith, nat_tests) in let here : n == x ≡ true = grind (arith, nat_tests) in rw (behind, here) up)
  | inr apart ↦ elim apart [
    | inl less ↦ (let behind : nat_lt n x ≡ false = grind (arith, nat_tests) in let other : n == x ≡ false = grind (arith, nat_tests) in
        rw (behind, other) (up.0, ascend_with (x + 1) n xs up.1 (omega arith)))
    | inr more ↦ (let here : nat_lt n x ≡ true = grind (arith, nat_tests) in rw here (le, (omega arith, up.1)))
  ]
]
