-- Digits that go on with a number that is too large.
use Rattle.std.proofs.Common.{◌≡◌, ℕ, suc, ◌<◌, length, drop, get_or, drop-cons, ap, ◌∙◌, ◌+◌, ◌-◌, ◌*◌, ◌^◌, ◌≤◌, Bool, true, false, List, [], ◌∷◌, Option, Some, None, refl, arith, nat_lt, cond, lt-ltb}
use Rattle.std.proofs.lemmas.Bool.Decides.{nat_tests}
use Rattle.std.proofs.lemmas.List.{drop_all}
use Rattle.xfs_options.specs.Numbers.{below_limit, digits_from, is_digit}

too_large : (n : ℕ) → 2 ^ 63 ≤ n → below_limit (Some n) ≡ None
too_large n large = grind (arith, nat_tests)

choice : (b : Bool) (m : Option ℕ) → below_limit m ≡ None → below_limit (cond b m None) ≡ None
choice true m none = none
choice false m none = refl

-- no digits make it smaller
pub digits_large : (n : ℕ) (bytes : List ℕ) → 2 ^ 63 ≤ n → below_limit (digits_from n bytes) ≡ None
digits_large n [] large = too_large n large
digits_large n (byte ∷ bytes) large = choice (is_digit byte) _ (digits_large (n * 10 + (byte - 48)) bytes (omega (arith, large)))

rest_from : (bytes : List ℕ) (i : ℕ) → i < length bytes → drop i bytes ≡ get_or bytes i 0 ∷ drop (i + 1) bytes
rest_from bytes i within =
    let next : suc i ≡ i + 1 = omega arith in drop-cons bytes i 0 within ∙ ap (λ (k : ℕ). get_or bytes i 0 ∷ drop k bytes) next

-- a digit that makes it too large
pub digit_large : (n i : ℕ) (bytes : List ℕ) → i < length bytes → is_digit (get_or bytes i 0) ≡ true → 2 ^ 63 ≤ n * 10 + (get_or bytes i 0 - 48)
    → below_limit (digits_from n (drop i bytes)) ≡ None
digit_large n i bytes within digit large =
    ap (λ (ds : List ℕ). below_limit (digits_from n ds)) (rest_from bytes i within)
    ∙ ap (λ (b : Bool). below_limit (cond b (digits_from (n * 10 + (get_or bytes i 0 - 48)) (drop (i + 1) bytes)) None)) digit
    ∙ digits_large (n * 10 + (get_or bytes i 0 - 48)) (drop (i + 1) bytes) large

-- a digit more, a byte that is none, and the end
pub digit_more : (n i : ℕ) (bytes : List ℕ) → i < length bytes → is_digit (get_or bytes i 0) ≡ true
    → below_limit (digits_from n (drop i bytes)) ≡ below_limit (digits_from (n * 10 + (get_or bytes i 0 - 48)) (drop (i + 1) bytes))
digit_more n i bytes within digit =
    ap (λ (ds : List ℕ). below_limit (digits_from n ds)) (rest_from bytes i within)
    ∙ ap (λ (b : Bool). below_limit (cond b (digits_from (n * 10 + (get_or bytes i 0 - 48)) (drop (i + 1) bytes)) None)) digit

pub digit_none : (n i : ℕ) (bytes : List ℕ) → i < length bytes → is_digit (get_or bytes i 0) ≡ false → below_limit (digits_from n (drop i bytes)) ≡ None
digit_none n i bytes within other =
    ap (λ (ds : List ℕ). below_limit (digits_from n ds)) (rest_from bytes i within)
    ∙ ap (λ (b : Bool). below_limit (cond b (digits_from (n * 10 + (get_or bytes i 0 - 48)) (drop (i + 1) bytes)) None)) other

pub digits_end : (n i : ℕ) (bytes : List ℕ) → n < 2 ^ 63 → length bytes ≤ i → below_limit (digits_from n (drop i bytes)) ≡ Some n
digits_end n i bytes low past =
    ap (λ (ds : List ℕ). below_limit (digits_from n ds)) (drop_all i bytes past) ∙ ap (λ (b : Bool). cond b (Some n) None) (lt-ltb n (2 ^ 63) low)
