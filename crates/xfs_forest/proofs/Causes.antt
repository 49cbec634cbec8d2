-- The causes of what is answered.
use Rattle.std.proofs.Common.{ℕ, ◌≤◌, arith}
use Rattle.xfs_forest.specs.declared.faults.ForestFault.{ForestFault}
use Rattle.xfs_forest.specs.declared.faults.ForestFault.TheVariants as errors
use Rattle.xfs_forest.specs.Causes.{IsForestCause}

-- a cause that is seen from an earlier count on
pub forest_caused : (earlier before now : ℕ) (e : ForestFault) → earlier ≤ before → IsForestCause before now e → IsForestCause earlier now e
forest_caused earlier before now errors.NoMemory up caused = omega (arith, up, caused)
forest_caused earlier before now errors.ReadFault up (le, rose) = (omega (arith, up, le), omega (arith, up, le, rose))
