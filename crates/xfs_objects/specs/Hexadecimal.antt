-- Numbers in hexadecimal.
use Rattle.std.specs.Prelude.{ℕ, false, List, []}
use Rattle.std.specs.Fmt.{digits_onto}

-- the digits of a number of 64 bits in base 16, lower case, without leading zeros
unfoldable pub hexadecimal : ℕ → List ℕ
hexadecimal n = digits_onto 16 16 false n []
