-- Sums of digits, of which those past 64 bits count as one.
use Rattle.std.proofs.Common.{◌≡◌, ℕ, suc, ◌+◌, ◌*◌, ◌^◌, ◌<◌, List, [], ◌∷◌, refl, sym, ◌∙◌, ap, min, arith, Bool, true, false, nat_le, length, drop, get_or, drop-cons, nat_lt, if◌then◌else◌, Option, Some, None}
use Rattle.std.proofs.Math.Nat.{mul-le-mul_left}
use Rattle.std.proofs.lemmas.Bool.Decides.{nat_tests}
use Rattle.xfs_objects.specs.Numbers.{capped, capped_number, number_of_word, typed, typed_number}
use Rattle.xfs_objects.specs.declared.numbers.Typed.{Typed}
use Rattle.xfs_objects.specs.declared.numbers.Typed.TheVariants.{NoNumber, TooLarge, Number}
use Rattle.std.specs.Char.{digit_value}
use Rattle.std.specs.Str.Parse.{digits_value_after}

-- capped once more or not, a number with a digit behind it is capped to the same
pub capped_step : (base n digit : ℕ) → 0 < base → min (min n (2 ^ 64) * base + digit) (2 ^ 64) ≡ min (n * base + digit) (2 ^ 64)
capped_step base n digit some = by_case (nat_le n (2 ^ 64)) refl
  where
    large : nat_le n (2 ^ 64) ≡ false → 2 ^ 64 < n
    large is = grind (arith, nat_tests, is)

    by_case : (r : Bool) → nat_le n (2 ^ 64) ≡ r → min (min n (2 ^ 64) * base + digit) (2 ^ 64) ≡ min (n * base + digit) (2 ^ 64)
    by_case true is = let same : min n (2 ^ 64) ≡ n = grind (arith, nat_tests, is) in ap (λ (k : ℕ). min (k * base + digit) (2 ^ 64)) same
    by_case false is =
        let same : min n (2 ^ 64) ≡ 2 ^ 64 = omega (arith, large is) in
        ap (λ (k : ℕ). min (k * base + digit) (2 ^ 64)) same ∙ omega (arith, mul-le-mul_left n some, large is)

pub capped_digits : (base n m : ℕ) (digits : List ℕ) → 0 < base → min n (2 ^ 64) ≡ min m (2 ^ 64)
    → min (digits_value_after base n digits) (2 ^ 64) ≡ min (digits_value_after base m digits) (2 ^ 64)
capped_digits base n m [] some same = same
capped_digits base n m (d ∷ ds) some same =
    capped_digits base (n * base + digit_value d) (m * base + digit_value d) ds some
    (sym (capped_step base n (digit_value d) some) ∙ ap (λ (k : ℕ). min (k * base + digit_value d) (2 ^ 64)) same ∙ capped_step base m (digit_value d) some)

rest_from : (digits : List ℕ) (i : ℕ) → i < length digits → drop i digits ≡ get_or digits i 0 ∷ drop (i + 1) digits
rest_from digits i within =
    let next : suc i ≡ i + 1 = omega arith in drop-cons digits i 0 within ∙ ap (λ (k : ℕ). get_or digits i 0 ∷ drop k digits) next

-- one more digit
pub capped_digit : (base before now digit : ℕ) (digits : List ℕ) (i : ℕ) → i < length digits → now ≡ min (2 ^ 64) (before * base + digit)
    → digit ≡ digit_value (get_or digits i 0) → 0 < base
    → min (digits_value_after base now (drop (i + 1) digits)) (2 ^ 64) ≡ min (digits_value_after base before (drop i digits)) (2 ^ 64)
capped_digit base before now digit digits i within is told some =
    capped_digits base now (before * base + digit) (drop (i + 1) digits) some (omega (arith, is))
    ∙ ap (λ (d : ℕ). min (digits_value_after base (before * base + d) (drop (i + 1) digits)) (2 ^ 64)) told
    ∙ ap (λ (ds : List ℕ). min (digits_value_after base before ds) (2 ^ 64)) (sym (rest_from digits i within))

capped_fits : (n : ℕ) → (if nat_lt (min n (2 ^ 64)) (2 ^ 64) then Number (min n (2 ^ 64)) else TooLarge) ≡ (if nat_lt n (2 ^ 64) then Number n else TooLarge)
capped_fits n = by_case (nat_lt n (2 ^ 64)) refl
  where
    by_case : (r : Bool) → nat_lt n (2 ^ 64) ≡ r
        → (if nat_lt (min n (2 ^ 64)) (2 ^ 64) then Number (min n (2 ^ 64)) else TooLarge) ≡ (if nat_lt n (2 ^ 64) then Number n else TooLarge)
    by_case true is = let same : min n (2 ^ 64) ≡ n = grind (arith, nat_tests, is) in rw same refl
    by_case false is = let same : min n (2 ^ 64) ≡ 2 ^ 64 = grind (arith, nat_tests, is) in rw (same, is) refl

-- what was typed by its capped number
abbrev pub typed_of : Option ℕ → Typed
typed_of None = NoNumber
typed_of (Some n) = if nat_lt n (2 ^ 64) then Number n else TooLarge

by_number : (number : Option ℕ) → typed_of (capped_number number) ≡ typed_number number
unfolding capped_number capped
by_number None = refl
by_number (Some n) = capped_fits n

typed_is : (word : List ℕ) (number : Option ℕ) → number ≡ capped_number (number_of_word word) → typed_of number ≡ typed word
unfolding typed
typed_is word number is = ap typed_of is ∙ by_number (number_of_word word)

pub typed_none : (word : List ℕ) (number : Option ℕ) → number ≡ capped_number (number_of_word word) → number ≡ None → NoNumber ≡ typed word
typed_none word number is none = ap typed_of (sym none) ∙ typed_is word number is

pub typed_some : (word : List ℕ) (number : Option ℕ) (n : ℕ) → number ≡ capped_number (number_of_word word) → number ≡ Some n
    → (if nat_lt n (2 ^ 64) then Number n else TooLarge) ≡ typed word
typed_some word number n is some = ap typed_of (sym some) ∙ typed_is word number is

pub ruleset typed_capped = (typed_none, typed_some)
