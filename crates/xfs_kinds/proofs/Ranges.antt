-- Tests over the numbers of a range.
use Rattle.std.proofs.Common.{◌≡◌, ℕ, zero, suc, ◌+◌, ◌<◌, Bool, true, false, refl, sym, ◌∙◌, ap, arith}
use Rattle.std.proofs.lemmas.Bool.{and_from, and_left, and_right}
use Rattle.std.specs.List.{list_all, range_with_len}

-- one number that fails makes the test of all fail
pub some_fails : (test : ℕ → Bool) (from n k : ℕ) → k < n → test (from + k) ≡ false → list_all test (range_with_len from n) ≡ false
some_fails test from zero k h fails = absurd (omega (arith, h))
some_fails test from (suc n) zero h fails =
    let e : from + 0 ≡ from = omega arith in
    and_left (test from) (list_all test (range_with_len (from + 1) n)) (ap test (sym e) ∙ fails)
some_fails test from (suc n) (suc k) h fails =
    let e : (from + 1) + k ≡ from + suc k = omega arith in
    let less : k < n = omega (arith, h) in
    and_right (test from) (list_all test (range_with_len (from + 1) n)) (some_fails test (from + 1) n k less (ap test e ∙ fails))

-- where each number passes, the test of all passes
pub all_hold : (test : ℕ → Bool) (from n : ℕ) → ((k : ℕ) → k < n → test (from + k) ≡ true) → list_all test (range_with_len from n) ≡ true
all_hold test from zero holds = refl
all_hold test from (suc n) holds =
    let e : from + 0 ≡ from = omega arith in
    let first : test from ≡ true = ap test (sym e) ∙ holds 0 (omega arith) in
    let others = λ (k : ℕ) (h : k < n).
    let f : (from + 1) + k ≡ from + suc k = omega arith in
    let less : suc k < suc n = omega (arith, h) in
    ap test f ∙ holds (suc k) less in
    and_from (test from) (list_all test (range_with_len (from + 1) n)) first (all_hold test (from + 1) n others)
