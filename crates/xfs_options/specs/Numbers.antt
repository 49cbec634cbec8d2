-- Decimal numbers in words.
use Rattle.std.specs.Prelude.{ℕ, ◌+◌, ◌-◌, ◌*◌, ◌^◌, Bool, ◌==◌, ◌&&◌, nat_le, nat_lt, if◌then◌else◌, List, [], ◌∷◌, Option, Some, None}

-- a decimal digit
abbrev pub is_digit : ℕ → Bool
is_digit byte = nat_le 48 byte && nat_le byte 57

-- the number that goes on with these digits, where there is nothing else
abbrev pub digits_from : ℕ → List ℕ → Option ℕ
digits_from n [] = Some n
digits_from n (byte ∷ bytes) = if is_digit byte then digits_from (n * 10 + (byte - 48)) bytes else None

-- the number that a word writes in decimal, without a sign or a leading zero
abbrev pub decimal_of : List ℕ → Option ℕ
decimal_of [] = None
decimal_of (byte ∷ []) = digits_from 0 (byte ∷ [])
decimal_of (byte ∷ next ∷ bytes) = if byte == 48 then None else digits_from 0 (byte ∷ next ∷ bytes)

-- a number below 2^63
abbrev pub below_limit : Option ℕ → Option ℕ
below_limit None = None
below_limit (Some n) = if nat_lt n (2 ^ 63) then Some n else None

-- the number of a word, where it is below 2^63
unfoldable pub bounded_number : List ℕ → Option ℕ
bounded_number word = below_limit (decimal_of word)
