-- Counts of failed reads that go on.
use Rattle.std.proofs.Common.{ℕ, ◌≤◌, arith}
use Rattle.xfs_disk.specs.Faults.{Rose}
use Rattle.xfs_dirs.specs.Answers.{IsDirCause}
use Rattle.xfs_dirs.specs.declared.found.DirectoryFault.{DirectoryFault}
use Rattle.xfs_dirs.specs.declared.found.DirectoryFault.TheVariants as errors

-- a count that stays has not fallen
pub no_later : (a : ℕ) → a ≤ a
no_later a = omega arith

-- a count that has not fallen twice
pub later_on : (a b c : ℕ) → a ≤ b → b ≤ c → a ≤ c
later_on a b c first then = omega (arith, first, then)

-- one that rose after it had not fallen
pub rose_on : (a b c : ℕ) → a ≤ b → Rose b c → Rose a c
rose_on a b c up (le, rose) = (omega (arith, up, le), omega (arith, up, le, rose))

-- a cause that is seen from an earlier count on
pub caused_on : (a b c : ℕ) (fault : DirectoryFault) → a ≤ b → IsDirCause b c fault → IsDirCause a c fault
caused_on a b c errors.ReadFault up (le, rose) = (omega (arith, up, le), omega (arith, up, le, rose))
caused_on a b c errors.NoMemory up le = omega (arith, up, le)
