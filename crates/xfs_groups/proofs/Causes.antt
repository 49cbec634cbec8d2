-- The causes of what is answered after several readings.
use Rattle.std.proofs.Common.{ℕ, ◌^◌, ◌<◌, ◌≤◌, Result, Ok, Err, arith}
use Rattle.xfs_disk.specs.Faults.{HasCause}
use Rattle.xfs_groups.specs.Answers.{IsGroupsCause}
use Rattle.xfs_groups.specs.declared.faults.GroupsFault.{GroupsFault}
use Rattle.xfs_groups.specs.declared.faults.GroupsFault.TheVariants as faults

-- a count that stays has not fallen
pub no_later : (a : ℕ) → a ≤ a
no_later a = omega arith

-- a count that has not fallen twice
pub later : (a b c : ℕ) → a ≤ b → b ≤ c → a ≤ c
later a b c first then = omega arith

-- a block of a volume has a short number
pub low_start : (start blocks : ℕ) → start < blocks → blocks ≤ 2 ^ 26 → start < 2 ^ 32
low_start start blocks inside small = omega (arith, inside, small)

-- a cause that is seen from an earlier count on
pub caused_on : (a b c : ℕ) (fault : GroupsFault) → a ≤ b → IsGroupsCause b c fault → IsGroupsCause a c fault
caused_on a b c faults.ReadFault up (le, rose) = (omega (arith, up, le), omega (arith, up, le, rose))
caused_on a b c faults.NoMemory up le = omega (arith, up, le)

pub has_cause_on : {T E : Type 0} (a b c : ℕ) (result : Result T E) → a ≤ b → HasCause b c result → HasCause a c result
has_cause_on a b c (Ok x) up le = omega (arith, up, le)
has_cause_on a b c (Err e) up (le, rose) = (omega (arith, up, le), omega (arith, up, le, rose))
