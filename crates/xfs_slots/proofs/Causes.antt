-- Counts of failed reads that go on.
use Rattle.std.proofs.Common.{ℕ, ◌≤◌, Result, Ok, Err, arith}
use Rattle.xfs_slots.specs.Causes.{HasReadCause, IsReadCause}
use Rattle.xfs_slots.specs.declared.faults.PartFault.{PartFault}
use Rattle.xfs_slots.specs.declared.faults.PartFault.TheVariants as errors

-- a cause that is seen from an earlier count on
pub caused_on : (a b c : ℕ) (fault : PartFault) → a ≤ b → IsReadCause b c fault → IsReadCause a c fault
caused_on a b c errors.ReadFault up (le, rose) = (omega (arith, up, le), omega (arith, up, le, rose))
caused_on a b c errors.NoMemory up le = omega (arith, up, le)

-- the same of what is answered
pub result_caused : {T : Type 0} (a b c : ℕ) (result : Result T PartFault) → a ≤ b → HasReadCause b c result → HasReadCause a c result
result_caused a b c (Ok value) up le = omega (arith, up, le)
result_caused a b c (Err fault) up cause = caused_on a b c fault up cause
