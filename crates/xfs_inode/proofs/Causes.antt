-- Counts of failed reads that go on, and blocks that are given.
use Rattle.std.proofs.Common.{◌≡◌, ℕ, ◌+◌, ◌≤◌, List, length, Option, Some, None, IfSome, option_map, Result, Ok, Err, subst, arith}
use Rattle.xfs_disk.specs.Faults.{Rose}
use Rattle.xfs_word.specs.declared.extents.Extent.{Extent}
use Rattle.xfs_tree.specs.Answers.{Fails}
use Rattle.xfs_tree.specs.Reading.{Contents}
use Rattle.xfs_tree.specs.declared.tree.TreeFault.{TreeFault}
use Rattle.xfs_tree.specs.declared.tree.TreeFault.TheVariants as faults
use Rattle.xfs_tree.specs.declared.unread.Unread.{Unread}
use Rattle.xfs_inode.specs.Named.{HasInodeCause}
use Rattle.xfs_inode.specs.declared.faults.InodeFault.{InodeFault}
use Rattle.xfs_inode.specs.declared.faults.InodeFault.TheVariants as errors

-- a count that rose after it had not fallen
pub rose_on : (a b c : ℕ) → a ≤ b → Rose b c → Rose a c
rose_on a b c up (le, rose) = (omega (arith, up, le), omega (arith, up, le, rose))

-- a cause that is seen from an earlier count on
pub caused_on : {T : Type 0} (a b c : ℕ) (result : Result T InodeFault) → a ≤ b → HasInodeCause b c result → HasInodeCause a c result
caused_on a b c (Ok x) up le = omega (arith, up, le)
caused_on a b c (Err errors.ReadFault) up (le, rose) = (omega (arith, up, le), omega (arith, up, le, rose))
caused_on a b c (Err errors.NoMemory) up le = omega (arith, up, le)

-- steps that are counted on, and reads with them
pub counted_on : (r r2 r3 s s2 s3 : ℕ) → r2 + s ≤ r + s2 → r3 + s2 ≤ r2 + s3 → r3 + s ≤ r + s3
counted_on r r2 r3 s s2 s3 one other = omega (arith, one, other)

-- a block that is given where one is named is whole
pub given_whole : (named : Option ℕ) (block : List ℕ) → length block ≡ 4096 → IfSome (option_map (λ (place : ℕ). block) named) (λ (given : List ℕ). length given ≡ 4096)
given_whole None block whole = tt
given_whole (Some place) block whole = whole

-- a block that breaks a rule is the due answer
pub unread_on : {fault : TreeFault} {unread : Unread} {due : Result (Contents Extent) Unread} → fault ≡ faults.Unread unread → Fails fault due → due ≡ Err unread
unread_on {due = due} is fails = subst (λ (f : TreeFault). Fails f due) is fails
