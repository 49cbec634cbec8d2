-- Numbers as they are typed: decimal without a leading zero, or `0x` and hexadecimal digits.
use Rattle.std.specs.Prelude.{ℕ, ◌^◌, Bool, ◌==◌, ◌&&◌, ◌||◌, not, nat_lt, if◌then◌else◌, codes, bytes_eq, List, length, take, drop, Option, Some, None, min}
use Rattle.std.specs.Char.{digit_value}
use Rattle.std.specs.List.{list_all}
use Rattle.std.specs.Str.Parse.{digits_value}
use Rattle.xfs_objects.specs.declared.numbers.Typed.{Typed}
use Rattle.xfs_objects.specs.declared.numbers.Typed.TheVariants.{NoNumber, TooLarge, Number}

-- the byte is a digit in the base; both cases of letters count
abbrev pub is_digit_of : ℕ → ℕ → Bool
is_digit_of base byte = nat_lt (digit_value byte) base

-- one digit or more, and nothing else
abbrev pub is_numeral : ℕ → List ℕ → Bool
is_numeral base digits = not (length digits == 0) && list_all (is_digit_of base) digits

abbrev pub is_decimal : List ℕ → Bool
is_decimal word = is_numeral 10 word && (length word == 1 || not (bytes_eq (take 1 word) (codes "0")))

abbrev pub is_hexadecimal : List ℕ → Bool
is_hexadecimal word = bytes_eq (take 2 word) (codes "0x") && is_numeral 16 (drop 2 word)

-- the number that a word writes, however large
unfoldable pub number_of_word : List ℕ → Option ℕ
number_of_word word =
    if is_decimal word then Some (digits_value 10 word)
    else if is_hexadecimal word then Some (digits_value 16 (drop 2 word))
    else None

-- a number, of which those of more than 64 bits count as one
unfoldable pub capped : ℕ → ℕ
capped n = min n (2 ^ 64)

unfoldable pub capped_number : Option ℕ → Option ℕ
capped_number None = None
capped_number (Some n) = Some (capped n)

-- what was typed: no number, one of more than 64 bits, or a number
abbrev pub typed_number : Option ℕ → Typed
typed_number None = NoNumber
typed_number (Some n) = if nat_lt n (2 ^ 64) then Number n else TooLarge

unfoldable pub typed : List ℕ → Typed
typed word = typed_number (number_of_word word)
