-- Why a directory is not read.
use Rattle.std.specs.Prelude.{ℕ, ◌≤◌, Result, MatchResult}
use Rattle.xfs_disk.specs.Faults.{Rose}
use Rattle.xfs_dirs.specs.declared.found.DirectoryFault.{DirectoryFault}
use Rattle.xfs_dirs.specs.declared.found.DirectoryFault.TheVariants as errors

-- a read fault is answered only where the count of failed reads rose
abbrev pub IsDirCause : ℕ → ℕ → DirectoryFault → Type 0
IsDirCause before now errors.ReadFault = Rose before now
IsDirCause before now errors.NoMemory = before ≤ now

abbrev pub HasDirCause : {T : Type 0} → ℕ → ℕ → Result T DirectoryFault → Type 0
HasDirCause before now result = MatchResult result (λ _. before ≤ now) (IsDirCause before now)
