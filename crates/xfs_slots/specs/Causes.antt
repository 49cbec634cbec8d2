-- Why slots are not taken up.
use Rattle.std.specs.Prelude.{ℕ, ◌≤◌, Result, MatchResult}
use Rattle.xfs_disk.specs.Faults.{Rose}
use Rattle.xfs_slots.specs.declared.faults.PartFault.{PartFault}
use Rattle.xfs_slots.specs.declared.faults.PartFault.TheVariants as errors

-- a read fault is answered only where the count of failed reads rose
abbrev pub IsReadCause : ℕ → ℕ → PartFault → Type 0
IsReadCause before now errors.ReadFault = Rose before now
IsReadCause before now errors.NoMemory = before ≤ now

abbrev pub HasReadCause : {T : Type 0} → ℕ → ℕ → Result T PartFault → Type 0
HasReadCause before now result = MatchResult result (λ _. before ≤ now) (IsReadCause before now)
