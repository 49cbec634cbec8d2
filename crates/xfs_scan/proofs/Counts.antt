-- Counts of reads, of steps and of failed reads, from one call to the next.
use Rattle.std.proofs.Common.{◌≡◌, ℕ, ◌+◌, ◌-◌, ◌^◌, ◌<◌, ◌≤◌, min, arith}
use Rattle.xfs_disk.specs.Faults.{Rose}

pub still : (a : ℕ) → a ≤ a
still a = omega arith

pub later : (a b c : ℕ) → a ≤ b → b ≤ c → a ≤ c
later a b c first then = omega (arith, first, then)

-- a count that rose behind an earlier one
pub rose_on : (a b c : ℕ) → a ≤ b → Rose b c → Rose a c
rose_on a b c up (le, rose) = (omega (arith, up, le), omega (arith, up, le, rose))

-- each read of two calls was a step
pub counted : (a b c p q r : ℕ) → b + p ≤ a + q → c + q ≤ b + r → c + p ≤ a + r
counted a b c p q r first then = omega (arith, first, then)

-- a read that was a step before others
pub counted_behind : (a b c p q r : ℕ) → b ≡ min (a + 1) (2 ^ 64 - 1) → q ≡ p + 1 → c + q ≤ b + r → c + p ≤ a + r
counted_behind a b c p q r once step then = omega (arith, once, step, then)

pub counted_once : (a b p q : ℕ) → b ≡ min (a + 1) (2 ^ 64 - 1) → q ≡ p + 1 → b + p ≤ a + q
counted_once a b p q once step = omega (arith, once, step)

pub counted_none : (a b p q : ℕ) → b ≡ a → q ≡ p + 1 → b + p ≤ a + q
counted_none a b p q none step = omega (arith, none, step)

pub below : (a b c : ℕ) → a < b → b ≤ c → a < c
below a b c less up = omega (arith, less, up)
