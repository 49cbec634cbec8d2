-- Why a round is not read.
use Rattle.std.specs.Prelude.{ℕ, ◌≤◌, Result, MatchResult}
use Rattle.xfs_disk.specs.Faults.{Rose}
use Rattle.xfs_rounds.specs.declared.faults.RoundFault.{RoundFault}
use Rattle.xfs_rounds.specs.declared.faults.RoundFault.TheVariants as errors

-- a read fault is answered only where the count of failed reads rose
abbrev pub IsRoundCause : ℕ → ℕ → RoundFault → Type 0
IsRoundCause before now errors.ReadFault = Rose before now
IsRoundCause before now errors.NoMemory = before ≤ now

abbrev pub HasRoundCause : {T : Type 0} → ℕ → ℕ → Result T RoundFault → Type 0
HasRoundCause before now result = MatchResult result (λ _. before ≤ now) (IsRoundCause before now)
