-- The causes of what is answered after several readings.
use Rattle.std.proofs.Common.{ℕ, ◌≤◌, Result, Ok, Err, arith}
use Rattle.xfs_disk.specs.Faults.{Rose}
use Rattle.xfs_rebuild.specs.Refusals.{HasRebuildCause, IsRebuildCause}
use Rattle.xfs_rebuild.specs.declared.faults.RebuildFault.{RebuildFault}
use Rattle.xfs_rebuild.specs.declared.faults.RebuildFault.TheVariants as faults
use Rattle.xfs_rebuild.specs.declared.planning.Rebuilt.{Rebuilt}

-- a count that stays has not fallen
pub no_later : (a : ℕ) → a ≤ a
no_later a = omega arith

-- a count that has not fallen twice, and one that rose after it had not fallen
pub later_since : (a b c : ℕ) → a ≤ b → b ≤ c → a ≤ c
later_since a b c up le = omega (arith, up, le)

pub rose_since : (a b c : ℕ) → a ≤ b → Rose b c → Rose a c
rose_since a b c up (le, rose) = (omega (arith, up, le), omega (arith, up, le, rose))

-- a cause that is seen from an earlier count on
pub cause_since : (a b c : ℕ) (fault : RebuildFault) → a ≤ b → IsRebuildCause b c fault → IsRebuildCause a c fault
cause_since a b c (faults.Names due) up cause = later_since a b c up cause
cause_since a b c (faults.NoRoom what) up cause = later_since a b c up cause
cause_since a b c faults.ReadFault up cause = rose_since a b c up cause
cause_since a b c faults.NoMemory up cause = later_since a b c up cause

pub caused_since : (a b c : ℕ) (result : Result Rebuilt RebuildFault) → a ≤ b → HasRebuildCause b c result → HasRebuildCause a c result
caused_since a b c (Ok r) up cause = later_since a b c up cause
caused_since a b c (Err fault) up cause = cause_since a b c fault up cause
