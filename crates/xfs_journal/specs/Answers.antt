-- Why the log or the log sequence numbers are not read.
use Rattle.std.specs.Prelude.{ℕ, ◌≤◌, Result, MatchResult}
use Rattle.xfs_disk.specs.Faults.{Rose}
use Rattle.xfs_journal.specs.declared.faults.JournalFault.{JournalFault}
use Rattle.xfs_journal.specs.declared.faults.JournalFault.TheVariants as faults

-- a read fault is answered only where the count of failed reads rose
abbrev pub IsJournalCause : ℕ → ℕ → JournalFault → Type 0
IsJournalCause before now faults.ReadFault = Rose before now
IsJournalCause before now faults.NoMemory = before ≤ now

abbrev pub HasJournalCause : {T : Type 0} → ℕ → ℕ → Result T JournalFault → Type 0
HasJournalCause before now result = MatchResult result (λ _. before ≤ now) (IsJournalCause before now)
