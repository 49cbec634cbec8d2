-- The causes of what is answered after several readings.
use Rattle.std.proofs.Common.{ℕ, ◌+◌, ◌≤◌, Err, arith}
use Rattle.xfs_disk.specs.Faults.{Rose}
use Rattle.xfs_backups.specs.Causes.{HasMendCause}
use Rattle.xfs_backups.specs.declared.faults.MendFault.{MendFault}
use Rattle.xfs_backups.specs.declared.faults.MendFault.TheVariants as faults

-- a count that stays has not fallen
pub no_later : (a : ℕ) → a ≤ a
no_later a = omega arith

-- a count that has not fallen twice, and one that rose after it had not fallen
pub later_on : (a b c : ℕ) → a ≤ b → b ≤ c → a ≤ c
later_on a b c first then = omega (arith, first, then)

pub rose_on : (a b c : ℕ) → a ≤ b → Rose b c → Rose a c
rose_on a b c up (le, rose) = (omega (arith, up, le), omega (arith, up, le, rose))

-- a cause is one of whatever was asked for
pub same_cause : (T U : Type 0) (before now : ℕ) (fault : MendFault) → HasMendCause {T = T} before now (Err fault) → HasMendCause {T = U} before now (Err fault)
same_cause T U before now faults.ReadFault cause = cause
same_cause T U before now faults.NoMemory cause = cause
