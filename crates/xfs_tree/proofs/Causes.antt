-- The causes of what is answered.
use Rattle.std.proofs.Common.{◌≡◌, ℕ, ◌≤◌, Option, Some, arith}
use Rattle.xfs_tree.specs.declared.tree.TreeFault.{TreeFault}
use Rattle.xfs_tree.specs.declared.tree.TreeFault.TheVariants as errors
use Rattle.xfs_tree.specs.declared.unread.Unread.{Unread}
use Rattle.xfs_tree.specs.Answers.{IsFault, IsTreeCause}

-- a cause that is seen from an earlier count on
pub caused_before : (earlier before now : ℕ) (e : TreeFault) → earlier ≤ before → IsTreeCause before now e → IsTreeCause earlier now e
caused_before earlier before now (errors.Unread fault) up caused = omega (arith, up, caused)
caused_before earlier before now errors.NoMemory up caused = omega (arith, up, caused)
caused_before earlier before now errors.ReadFault up (le, rose) = (omega (arith, up, le), omega (arith, up, le, rose))

-- the fault of a block is the fault of its row, where that is the first
pub fault_of_row : (block row : Option Unread) (e : TreeFault) → ((fault : Unread) → block ≡ Some fault → row ≡ Some fault) → IsFault block e → IsFault row e
fault_of_row block row (errors.Unread fault) first broken = first fault broken
fault_of_row block row errors.NoMemory first broken = broken
fault_of_row block row errors.ReadFault first broken = broken
