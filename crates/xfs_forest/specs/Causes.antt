-- Why trees are not read.
use Rattle.std.specs.Prelude.{ℕ, ◌≤◌, Result, MatchResult}
use Rattle.xfs_disk.specs.Faults.{Rose}
use Rattle.xfs_forest.specs.declared.faults.ForestFault.{ForestFault}
use Rattle.xfs_forest.specs.declared.faults.ForestFault.TheVariants as errors

-- a read fault is answered only where the count of failed reads rose
abbrev pub IsForestCause : ℕ → ℕ → ForestFault → Type 0
IsForestCause before now errors.ReadFault = Rose before now
IsForestCause before now errors.NoMemory = before ≤ now

abbrev pub HasForestCause : {T : Type 0} → ℕ → ℕ → Result T ForestFault → Type 0
HasForestCause before now result = MatchResult result (λ _. before ≤ now) (IsForestCause before now)
