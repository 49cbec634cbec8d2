-- Why a repair ends before anything is written.
use Rattle.std.specs.Prelude.{ℕ, ◌≤◌, Result, Ok, Err}
use Rattle.xfs_disk.specs.Faults.{Rose}
use Rattle.xfs_backups.specs.declared.faults.MendFault.{MendFault}
use Rattle.xfs_backups.specs.declared.faults.MendFault.TheVariants.{ReadFault, NoMemory}

-- the count has not fallen, and a read fault is answered only where it rose
abbrev pub HasMendCause : {T : Type 0} → ℕ → ℕ → Result T MendFault → Type 0
HasMendCause before now (Ok _) = before ≤ now
HasMendCause before now (Err ReadFault) = Rose before now
HasMendCause before now (Err NoMemory) = before ≤ now
