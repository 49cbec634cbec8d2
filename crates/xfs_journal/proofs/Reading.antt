-- The causes of what is answered.
use Rattle.std.proofs.Common.{ℕ, ◌≤◌, arith}
use Rattle.xfs_disk.specs.Faults.{Rose}
use Rattle.xfs_journal.specs.Answers.{IsJournalCause}
use Rattle.xfs_journal.specs.declared.faults.JournalFault.{JournalFault}
use Rattle.xfs_journal.specs.declared.faults.JournalFault.TheVariants as faults

-- a cause that is seen from an earlier count on
pub caused_before : (earlier before now : ℕ) (e : JournalFault) → earlier ≤ before → IsJournalCause before now e → IsJournalCause earlier now e
caused_before earlier before now faults.NoMemory up caused = omega (arith, up, caused)
caused_before earlier before now faults.ReadFault up (le, rose) = (omega (arith, up, le), omega (arith, up, le, rose))

-- a count that has not fallen twice, and one that rose after it had not fallen
pub later_on : (a b c : ℕ) → a ≤ b → b ≤ c → a ≤ c
later_on a b c first then = omega (arith, first, then)

pub rose_on : (a b c : ℕ) → a ≤ b → Rose b c → Rose a c
rose_on a b c up (le, rose) = (omega (arith, up, le), omega (arith, up, le, rose))
