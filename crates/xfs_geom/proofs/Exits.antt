-- Counts of reads and of faults at the exits of an election.
use Rattle.std.proofs.Common.{◌≡◌, ℕ, ◌+◌, ◌-◌, ◌^◌, ◌≤◌, ◌<◌, min, List, Result, Ok, Err, None, arith, ◌∙◌, sym}
use Rattle.xfs_disk.specs.Faults.{Rose}
use Rattle.xfs_geom.specs.Electing.{HasElectCause}
use Rattle.xfs_geom.specs.Superblocks.{super_fault}
use Rattle.xfs_geom.specs.declared.election.ElectFault.{ElectFault}
use Rattle.xfs_geom.specs.declared.election.ElectFault.TheVariants.{NoGeometry, Unsupported, ReadFault, NoMemory}

pub unread : (a b n : ℕ) → b ≡ a → b ≤ a + n
unread a b n same = omega (arith, same)

pub unread_twice : (a b c n : ℕ) → b ≡ a → c ≡ b → c ≤ a + n
unread_twice a b c n first then = omega (arith, first, then)

-- one read of a disk that has a block
pub read_once : (a b c size n : ℕ) → b ≡ a → c ≡ min (b + 1) (2 ^ 64 - 1) → 0 < size → size ≡ n → c ≤ a + n
read_once a b c size n first then some count = omega (arith, first, then, some, count)

-- one read, and then each block but the first
pub read_all : (a b c d size n : ℕ) → b ≡ a → c ≡ min (b + 1) (2 ^ 64 - 1) → d + 1 ≤ c + size → size ≡ n → d ≤ a + n
read_all a b c d size n first then rest count = omega (arith, first, then, rest, count)

pub rose_on : (a b c : ℕ) → a ≤ b → Rose b c → Rose a c
rose_on a b c up rose = (omega (arith, up, rose.0), omega (arith, up, rose.1))

pub up_twice : (a b c : ℕ) → a ≤ b → b ≤ c → a ≤ c
up_twice a b c first then = omega (arith, first, then)

pub cause_on : {T : Type 0} (a b c : ℕ) (r : Result T ElectFault) → a ≤ b → HasElectCause b c r → HasElectCause a c r
cause_on a b c (Ok _) up cause = up_twice a b c up cause
cause_on a b c (Err ReadFault) up cause = rose_on a b c up cause
cause_on a b c (Err NoMemory) up cause = up_twice a b c up cause
cause_on a b c (Err NoGeometry) up cause = up_twice a b c up cause
cause_on a b c (Err (Unsupported word bits)) up cause = up_twice a b c up cause

-- a superblock is accepted, by other names of its bytes, its block and the blocks of the disk
pub accepted_as : (s t : List ℕ) (f g n m : ℕ) → t ≡ s → g ≡ f → n ≡ m → super_fault s f n ≡ None → super_fault t g m ≡ None
accepted_as s t f g n m bytes from count accepted = (λ i. super_fault (bytes i) (from i) (sym count i)) ∙ accepted

pub inside_as : (a b n m : ℕ) → a ≡ b → b ≤ n → n ≡ m → a ≤ m
inside_as a b n m same inside count = omega (arith, same, inside, count)
