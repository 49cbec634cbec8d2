-- Items shared out over blocks.
use Rattle.std.specs.Prelude.{ℕ, ◌+◌, ◌*◌, ◌/◌, ◌%◌, if◌then◌else◌, min, nat_lt}

-- share i of n items shared out over m blocks, the larger ones first, and where it begins
abbrev pub share_of : ℕ → ℕ → ℕ → ℕ
share_of n m i = if nat_lt i (n % m) then n / m + 1 else n / m

abbrev pub first_of_share : ℕ → ℕ → ℕ → ℕ
first_of_share n m i = i * (n / m) + min i (n % m)
