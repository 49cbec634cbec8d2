-- Decimal numbers in tokens.
use Rattle.std.specs.Prelude.{ℕ, nat_lt, if◌then◌else◌, List, Option, Some, None}
use Rattle.xfs_options.specs.Numbers.{decimal_of}

-- a number below a limit
abbrev pub limited : ℕ → Option ℕ → Option ℕ
limited limit None = None
limited limit (Some n) = if nat_lt n limit then Some n else None

-- the number of a token, where it is below a limit
unfoldable pub number_below : ℕ → List ℕ → Option ℕ
number_below limit text = limited limit (decimal_of text)
