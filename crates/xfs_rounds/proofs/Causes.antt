-- Numbers in order: counts of failed reads that go on, and places in a list.
use Rattle.std.proofs.Common.{◌≡◌, ℕ, ◌<◌, ◌≤◌, List, sym, subst, arith}
use Rattle.std.specs.List.{All}
use Rattle.xfs_rounds.specs.Causes.{IsRoundCause}
use Rattle.xfs_rounds.specs.declared.faults.RoundFault.{RoundFault}
use Rattle.xfs_rounds.specs.declared.faults.RoundFault.TheVariants as errors

-- a count that has not fallen twice
pub later_on : (a b c : ℕ) → a ≤ b → b ≤ c → a ≤ c
later_on a b c first then = omega (arith, first, then)

-- a cause that is seen from an earlier count on
pub caused_on : (a b c : ℕ) (fault : RoundFault) → a ≤ b → IsRoundCause b c fault → IsRoundCause a c fault
caused_on a b c errors.ReadFault up (le, rose) = (omega (arith, up, le), omega (arith, up, le, rose))
caused_on a b c errors.NoMemory up le = omega (arith, up, le)

-- no place comes before the first
pub none_under : (j : ℕ) → j < 0 → ⊥
none_under j under = omega (arith, under)

pub itself : (k : ℕ) → k ≤ k
itself k = omega arith

-- blocks inside what a disk has, also where the disk or the list is named otherwise
pub below_size : (xs ys : List ℕ) (end size now : ℕ) → ys ≡ xs → now ≡ size → end ≤ size → All (λ block. block < end) xs → All (λ block. block < now) ys
below_size xs ys end size now same kept inside all =
    subst (All (λ (block : ℕ). block < now)) (sym same) (λ k d under. let low = all k d under in omega (arith, low, kept, inside))
